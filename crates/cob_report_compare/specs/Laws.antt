-- What follows from the definitions of records that are compared.
use Rattle.std.specs.Prelude.{◌≡◌, ⊤, List, [], ◌∷◌, length}
use Rattle.std.specs.List.{AllByRecursion}
use Rattle.cob_copybook.specs.Books.{IsRecordDescription}
use Rattle.cob_copybook_tree.specs.Forests.{Forest}
use Rattle.cob_copybook_tree.specs.Nodes.{Resolved}
use Rattle.cob_records.specs.declared.records.Form.{Form}
use Rattle.cob_report_show.specs.Elements.{NamedItem, Printed}
use Rattle.cob_report_compare.specs.declared.files.FileSide.{FileSide}
use Rattle.cob_report_compare.specs.Chosen.{AreCompared}
use Rattle.cob_report_compare.specs.Equal.{EqualByValue, IsCompleteRecord}
use Rattle.cob_report_compare.specs.Merged.{Alone, AreMerged, Entry, IsKeyedRecord, Next, Pair, counts_of, lefts, lefts_counted, rights, rights_counted}

-- records of one layout that have the same bytes are equal by value, whatever is ignored
abbrev pub EqualBytes : Type 0
EqualBytes = (xs : List NamedItem) (l r : Printed) → IsRecordDescription l.tree → AreCompared l.tree xs → l.tree ≡ r.tree → IsCompleteRecord l → IsCompleteRecord r
    → l.bytes ≡ r.bytes → EqualByValue xs l r

-- each record of a file stands in one entry, a pair or alone: the counts of entries are as many as their records, on either side
abbrev pub EachOnce : Type 0
EachOnce = (es : List Entry) → (lefts_counted (counts_of es) ≡ length (lefts es)) × (rights_counted (counts_of es) ≡ length (rights es))

-- these entries are records that stand alone on this side
abbrev pub AreAlone : FileSide → List Entry → Type 0
AreAlone side [] = ⊤
AreAlone side (Pair l r c ∷ es) = ⊥
AreAlone side (Alone s x ∷ es) = (s ≡ side) × AreAlone side es

-- entries are pairs, and behind them records stand alone on one side
abbrev pub AreInOrder : List Entry → Type 0
AreInOrder [] = ⊤
AreInOrder (Pair l r c ∷ es) = AreInOrder es
AreInOrder (Alone side x ∷ es) = AreAlone side es

-- records without a key are pairs in their order, and behind them those of the longer file stand alone
abbrev pub MergesInOrder : Type 0
MergesInOrder = (left_form right_form : Form) (tree : Forest Resolved) (es : List Entry) (left right : Next) → AllByRecursion (IsKeyedRecord left_form tree []) (lefts es)
    → AllByRecursion (IsKeyedRecord right_form tree []) (rights es) → AreMerged es left right → AreInOrder es
