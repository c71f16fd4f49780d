-- Two files of one layout, compared record by record as their keys merge them.
use Rattle.std.specs.Prelude.{◌≡◌, ℕ, ◌+◌, ◌⊎◌, Bool, true, false, List, [], ◌∷◌, ◌++◌, length, Option, Ok, Err, Result}
use Rattle.std.specs.List.{AllByRecursion}
use Rattle.std.specs.declared.cmp.Ordering.TheVariants.{Equal}
use Rattle.cob_records.specs.Device.{Took}
use Rattle.cob_convert_stream.specs.Reasons.{is_write_cause}
use Rattle.cob_report_show.specs.Runs.{most_shown}
use Rattle.cob_report_compare.specs.declared.counted.PairCounts.{PairCounts}
use Rattle.cob_report_compare.specs.declared.files.CompareStop.{CompareStop}
use Rattle.cob_report_compare.specs.declared.files.FileSide.{FileSide}
use Rattle.cob_report_compare.specs.declared.files.FileSide.TheVariants.{Left, Right}
use Rattle.cob_report_compare.specs.declared.files.StopReason.{StopReason}
use Rattle.cob_report_compare.specs.declared.files.StopReason.TheVariants.{Record}
use Rattle.cob_report_compare.specs.declared.turns.Turn.{Turn}
use Rattle.cob_report_compare.specs.declared.turns.Turn.TheVariants as turn
use Rattle.cob_report_compare.specs.declared.records.Comparison.{Comparison}
use Rattle.cob_report_compare.specs.Files.{LeavesFile, StopsFile, is_reason_for, limit_of_pairs}
use Rattle.cob_report_compare.specs.Keys.{key_order}
use Rattle.cob_report_compare.specs.Lines.{AreComparedRecordLines, IfTold, IsAloneLine, IsHeading, number_text, numbers_text}
use Rattle.cob_report_compare.specs.Merged.{Alone, AreMerged, Ascend, Entry, FilePair, IsEntry, IsKeyedRecord, KeyedRecord, Next, Pair, StandsBelow, Unread, Ended, Waits, came, counts_of, lefts, lefts_counted, none_counted, rights, rights_counted, told_counted, with_entry}

-- ---- what is told next

-- what is told of two files next: nothing, for both are at their end; both records, which have one key; or the lesser of both
abbrev pub IsTurn : Next → Next → Turn → Type 0
IsTurn left right turn.Done = (left ≡ Ended) × (right ≡ Ended)
IsTurn left right turn.Both = (l : KeyedRecord) × (r : KeyedRecord) × (left ≡ Waits l) × (right ≡ Waits r) × (key_order l.key r.key ≡ Equal)
IsTurn left right turn.Left = (l : KeyedRecord) × (left ≡ Waits l) × StandsBelow l right
IsTurn left right turn.Right = (r : KeyedRecord) × (right ≡ Waits r) × StandsBelow r left

-- on which side it is told: a pair on the left
abbrev pub turn_side : Turn → FileSide
turn_side turn.Done = Left
turn_side turn.Both = Left
turn_side turn.Left = Left
turn_side turn.Right = Right

-- what is told is this entry
abbrev pub IsTold : FilePair → Next → Next → Turn → Entry → Type 0
IsTold files left right turn.Done e = ⊥
IsTold files left right turn.Both e =
    (l : KeyedRecord) × (r : KeyedRecord) × (c : Comparison) × (left ≡ Waits l) × (right ≡ Waits r) × (key_order l.key r.key ≡ Equal) × (e ≡ Pair l r c) × IsEntry files (Pair l r c)
IsTold files left right turn.Left e = (l : KeyedRecord) × (left ≡ Waits l) × StandsBelow l right × (e ≡ Alone Left l)
IsTold files left right turn.Right e = (r : KeyedRecord) × (right ≡ Waits r) × StandsBelow r left × (e ≡ Alone Right r)

-- ---- what is printed

-- the lines of an entry whose records have these numbers: those of a pair, under its numbers and its key, or that of a record that stands alone
abbrev pub IsEntryText : FilePair → (left right : ℕ) → Entry → List ℕ → Type 0
IsEntryText files left right (Pair l r c) text = AreComparedRecordLines (IsHeading (numbers_text left right) files.keys l.key_bytes) l.body r.body c text
IsEntryText files left right (Alone Left l) text = IsAloneLine Left (IsHeading (number_text Left left) files.keys l.key_bytes) text
IsEntryText files left right (Alone Right r) text = IsAloneLine Right (IsHeading (number_text Right right) files.keys r.key_bytes) text

-- The lines of entries behind others of these counts: as many records as at most are told, and no more.
abbrev pub AreEntryLines : FilePair → PairCounts → List Entry → List ℕ → Type 0
AreEntryLines files before [] text = text ≡ []
AreEntryLines files before (e ∷ es) text =
    (front : List ℕ) × (rest : List ℕ) × IfTold files.most (told_counted before) (IsEntryText files (lefts_counted before + 1) (rights_counted before + 1) e) front
    × AreEntryLines files (with_entry before e) es rest × (text ≡ front ++ rest)

-- ---- how it ends

-- how many records of a file there are among entries
abbrev pub number_on : FileSide → List Entry → ℕ
number_on Left es = length (lefts es)
number_on Right es = length (rights es)

-- the lines of what is told next, behind these entries, could not all be printed. What the sink took of them is not told
abbrev pub StopsPrinting : (left right : Next) → CompareStop → Type 0
StopsPrinting left right stop = (t : Turn) × (t ≡ turn.Done → ⊥) × IsTurn left right t × (stop.side ≡ turn_side t)

-- The record of a file behind these entries stops it, and of the other file nothing more was read. Or they are as many as at most.
abbrev pub StopsOn : FilePair → FileSide → List Entry → (left right : Next) → StopReason → (l0 l1 r0 r1 : Option (List ℕ)) → Type 0
StopsOn files Left es left right why l0 l1 r0 r1 =
    (left ≡ Unread) × StopsFile files.left_form files.tree files.keys (lefts es) why l0 l1 × LeavesFile files.right_form (rights es) right r0 r1
StopsOn files Right es left right why l0 l1 r0 r1 =
    (right ≡ Unread) × StopsFile files.right_form files.tree files.keys (rights es) why r0 r1 × LeavesFile files.left_form (lefts es) left l0 l1

abbrev pub StopsAtLimit : FilePair → List Entry → (left right : Next) → CompareStop → (l0 l1 r0 r1 : Option (List ℕ)) → Type 0
StopsAtLimit files es left right stop l0 l1 r0 r1 =
    (length es ≡ most_shown) × (stop ≡ record { side = Left; number = most_shown + 1; reason = Record limit_of_pairs })
    × LeavesFile files.left_form (lefts es) left l0 l1 × LeavesFile files.right_form (rights es) right r0 r1

-- What the answer says of these entries: both files are at their end, these are the counts, and just the lines of the entries are printed. Or a record stops
-- it, or lines that could not be printed.
abbrev pub EndsMerging : FilePair → List Entry → (left right : Next) → (l0 l1 r0 r1 w0 w1 : Option (List ℕ)) → Result PairCounts CompareStop → Type 0
EndsMerging files es left right l0 l1 r0 r1 w0 w1 (Ok counts) =
    (left ≡ Ended) × (right ≡ Ended) × (counts ≡ counts_of es)
    × LeavesFile files.left_form (lefts es) Ended l0 l1 × LeavesFile files.right_form (rights es) Ended r0 r1
    × Took w0 w1 (AreEntryLines files none_counted es)
EndsMerging files es left right l0 l1 r0 r1 w0 w1 (Err stop) =
    ((is_reason_for is_write_cause stop.reason ≡ false)
    × (((stop.number ≡ number_on stop.side es + 1) × StopsOn files stop.side es left right stop.reason l0 l1 r0 r1)
    ⊎ StopsAtLimit files es left right stop l0 l1 r0 r1)
    × Took w0 w1 (AreEntryLines files none_counted es))
    ⊎ ((is_reason_for is_write_cause stop.reason ≡ true) × (stop.number ≡ number_on stop.side es + 1) × StopsPrinting left right stop
    × LeavesFile files.left_form (lefts es) left l0 l1 × LeavesFile files.right_form (rights es) right r0 r1)

-- Two files compared as their keys merge them, with this answer: each record that came is whole and legible, has its key, and stands in one entry, in the order
-- of its file, in which no record stands below the one before it; those of one key are pairs.
pub record Merges (files : FilePair) (l0 l1 r0 r1 w0 w1 : Option (List ℕ)) (answer : Result PairCounts CompareStop) : Type 0 where
  pub entries : List Entry
  pub left : Next
  pub right : Next
  pub each : AllByRecursion (IsEntry files) entries
  pub left_keyed : AllByRecursion (IsKeyedRecord files.left_form files.tree files.keys) (came (lefts entries) left)
  pub right_keyed : AllByRecursion (IsKeyedRecord files.right_form files.tree files.keys) (came (rights entries) right)
  pub left_ascend : Ascend (came (lefts entries) left)
  pub right_ascend : Ascend (came (rights entries) right)
  pub merged : AreMerged entries left right
  pub ends : EndsMerging files entries left right l0 l1 r0 r1 w0 w1 answer
