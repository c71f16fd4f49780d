-- Two files of one layout merged by the keys of their records.
use Rattle.std.specs.Prelude.{◌≡◌, ◌==◌, ◌&&◌, ℕ, ◌+◌, ◌≤◌, ⊤, Bool, false, List, [], ◌∷◌, ◌++◌, map, flat_map}
use Rattle.std.specs.Ordering.{is_gt}
use Rattle.std.specs.declared.cmp.Ordering.TheVariants.{Less as Below, Equal as Alike}
use Rattle.cob_copybook_tree.specs.Forests.{Forest}
use Rattle.cob_copybook_tree.specs.Nodes.{Resolved}
use Rattle.cob_layout.specs.Standing.{Standing}
use Rattle.cob_layout.specs.Storage.{greatest_length}
use Rattle.cob_records.specs.declared.records.Form.{Form}
use Rattle.cob_records.specs.Frame.{IsRecord}
use Rattle.cob_report_show.specs.Elements.{NamedItem, Printed, named_item}
use Rattle.cob_report_show.specs.Runs.{IsLegible, most_shown}
use Rattle.cob_report_compare.specs.declared.counted.PairCounts.{PairCounts}
use Rattle.cob_report_compare.specs.declared.files.FileSide.{FileSide}
use Rattle.cob_report_compare.specs.declared.files.FileSide.TheVariants.{Left, Right}
use Rattle.cob_report_compare.specs.declared.pairs.ComparedFiles.{ComparedFiles}
use Rattle.cob_report_compare.specs.declared.records.Comparison.{Comparison}
use Rattle.cob_report_compare.specs.declared.records.Comparison.TheVariants.{Same, Equal, Differ, Unlike}
use Rattle.cob_report_compare.specs.Differences.{IsMeasured}
use Rattle.cob_report_compare.specs.Keys.{AreKeyBytes, AreKeyParts, KeyPart, key_order}

-- ---- records with their keys

-- a record of a file: its bytes, where its entries stand, the bytes of the items of its key, one behind another, and the key
pub record KeyedRecord : Type 0 where
  pub body : List ℕ
  pub places : Standing
  pub key_bytes : List ℕ
  pub key : List KeyPart

-- it, with its entries
abbrev pub printed_by : Forest Resolved → KeyedRecord → Printed
printed_by tree x = record { tree = tree; places = x.places; bytes = x.body }

-- it came whole, is legible, and its key is the one of these items
pub record IsKeyedRecord (form : Form) (tree : Forest Resolved) (keys : List NamedItem) (x : KeyedRecord) : Type 0 where
  pub whole : IsRecord form (greatest_length tree) x.body
  pub legible : IsLegible form tree x.body x.places
  pub bytes : AreKeyBytes keys (printed_by tree x) x.key_bytes
  pub key : AreKeyParts keys x.key_bytes x.key

-- the bytes of records
abbrev pub bodies : List KeyedRecord → List (List ℕ)
bodies xs = map (λ (x : KeyedRecord). x.body) xs

-- a record does not stand below another one, which comes before it
abbrev pub IsNotBelow : KeyedRecord → KeyedRecord → Type 0
IsNotBelow before x = is_gt (key_order before.key x.key) ≡ false

-- records ascend by their keys: none stands below the one before it
abbrev pub Ascend : List KeyedRecord → Type 0
Ascend [] = ⊤
Ascend (x ∷ []) = ⊤
Ascend (x ∷ y ∷ xs) = IsNotBelow x y × Ascend (y ∷ xs)

-- what stands next in a file, behind records that were told: it was not read; the file is at its end; or this record
pub data Next : Type 0 where
  Unread : Next
  Ended : Next
  Waits : KeyedRecord → Next

-- the records of a file that came: those that were told, and the next one where it was read
abbrev pub came : List KeyedRecord → Next → List KeyedRecord
came told Unread = told
came told Ended = told
came told (Waits x) = told ++ x ∷ []

-- ---- what is told of them

-- two files that are compared: the entries of their records, the items that are compared, or that it is the bytes, the items of their keys, how many records
-- are told at most, and how the records stand on either side
pub record FilePair : Type 0 where
  pub tree : Forest Resolved
  pub items : List NamedItem
  pub keys : List NamedItem
  pub by_bytes : Bool
  pub most : ℕ
  pub left_form : Form
  pub right_form : Form

-- the files that are compared
abbrev pub file_pair : ComparedFiles → FilePair
file_pair f = record {
  tree = f.layout.now;
  items = map named_item f.items.now;
  keys = map named_item f.keys.now;
  by_bytes = f.by_bytes;
  most = f.most;
  left_form = f.left_form;
  right_form = f.right_form;
}

-- what is told: two records that are a pair, and how they compare; or a record that stands alone on its side
pub data Entry : Type 0 where
  Pair : KeyedRecord → KeyedRecord → Comparison → Entry
  Alone : FileSide → KeyedRecord → Entry

-- the records of an entry on the left, and on the right
abbrev pub left_of : Entry → List KeyedRecord
left_of (Pair l r c) = l ∷ []
left_of (Alone Left l) = l ∷ []
left_of (Alone Right r) = []

abbrev pub right_of : Entry → List KeyedRecord
right_of (Pair l r c) = r ∷ []
right_of (Alone Left l) = []
right_of (Alone Right r) = r ∷ []

-- those of entries, in their order
abbrev pub lefts : List Entry → List KeyedRecord
lefts es = flat_map left_of es

abbrev pub rights : List Entry → List KeyedRecord
rights es = flat_map right_of es

-- a pair compares so
abbrev pub IsEntry : FilePair → Entry → Type 0
IsEntry files (Pair l r c) = IsMeasured files.by_bytes files.items (printed_by files.tree l) (printed_by files.tree r) c
IsEntry files (Alone side x) = ⊤

-- ---- how they are merged

-- the first of these records, or else what stands next behind them
abbrev pub first_or : List KeyedRecord → Next → Next
first_or [] next = next
first_or (x ∷ xs) next = Waits x

-- a record stands below the next one of the other file, or that file is at its end
abbrev pub StandsBelow : KeyedRecord → Next → Type 0
StandsBelow x Unread = ⊥
StandsBelow x Ended = ⊤
StandsBelow x (Waits y) = key_order x.key y.key ≡ Below

-- Entries of two files, behind which this stands next on either side, in which the records of one key are pairs, each the next of either file; and else the
-- lesser of both stands alone.
abbrev pub AreMerged : List Entry → (left right : Next) → Type 0
AreMerged [] left right = ⊤
AreMerged (Pair l r c ∷ es) left right = (key_order l.key r.key ≡ Alike) × AreMerged es left right
AreMerged (Alone Left l ∷ es) left right = StandsBelow l (first_or (rights es) right) × AreMerged es left right
AreMerged (Alone Right r ∷ es) left right = StandsBelow r (first_or (lefts es) left) × AreMerged es left right

-- ---- how many they are

-- the counts with one pair more
abbrev pub with_comparison : PairCounts → Comparison → PairCounts
with_comparison counts Same = record counts { same = counts.same + 1 }
with_comparison counts Equal = record counts { equal = counts.equal + 1 }
with_comparison counts (Differ told) = record counts { differ = counts.differ + 1 }
with_comparison counts (Unlike told) = record counts { differ = counts.differ + 1 }

-- and with one entry more
abbrev pub with_entry : PairCounts → Entry → PairCounts
with_entry counts (Pair l r c) = with_comparison counts c
with_entry counts (Alone Left l) = record counts { left_alone = counts.left_alone + 1 }
with_entry counts (Alone Right r) = record counts { right_alone = counts.right_alone + 1 }

-- and with all of these
abbrev pub counted_with : PairCounts → List Entry → PairCounts
counted_with counts [] = counts
counted_with counts (e ∷ es) = counted_with (with_entry counts e) es

-- none
abbrev pub none_counted : PairCounts
none_counted = record { same = 0; equal = 0; differ = 0; left_alone = 0; right_alone = 0 }

-- how many pairs there are of each kind, and how many records stand alone
abbrev pub counts_of : List Entry → PairCounts
counts_of es = counted_with none_counted es

-- how many records of either file these counts are, and how many of them are told
abbrev pub lefts_counted : PairCounts → ℕ
lefts_counted c = c.same + c.equal + c.differ + c.left_alone

abbrev pub rights_counted : PairCounts → ℕ
rights_counted c = c.same + c.equal + c.differ + c.right_alone

abbrev pub told_counted : PairCounts → ℕ
told_counted c = c.differ + c.left_alone + c.right_alone

-- all records are in pairs that are equal
abbrev pub are_equal : PairCounts → Bool
are_equal c = c.differ == 0 && c.left_alone == 0 && c.right_alone == 0

-- and how many entries they are
abbrev pub all_counted : PairCounts → ℕ
all_counted c = c.same + c.equal + c.differ + c.left_alone + c.right_alone

-- no file has more records than are compared at most
abbrev pub AreFew : PairCounts → Type 0
AreFew counts = (lefts_counted counts ≤ most_shown) × (rights_counted counts ≤ most_shown)
