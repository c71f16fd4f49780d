-- Records without a key are pairs in their order.
use Rattle.std.proofs.Common.{◌≡◌, List, [], ◌∷◌, refl, sym, ap, ◌∙◌, Less, Equal, Ordering}
use Rattle.std.specs.List.{AllByRecursion}
use Rattle.cob_copybook_tree.specs.Forests.{Forest}
use Rattle.cob_copybook_tree.specs.Nodes.{Resolved}
use Rattle.cob_records.specs.declared.records.Form.{Form}
use Rattle.cob_report_show.proofs.ElementLemmas.{all_become}
use Rattle.cob_report_compare.specs.declared.files.FileSide.TheVariants.{Left, Right}
use Rattle.cob_report_compare.specs.Keys.{key_order}
use Rattle.cob_report_compare.specs.Laws.{AreAlone, AreInOrder, MergesInOrder}
use Rattle.cob_report_compare.specs.Merged.{Alone, AreMerged, Entry, IsKeyedRecord, KeyedRecord, Next, Pair, StandsBelow, first_or, lefts, rights}

abbrev HasNone : KeyedRecord → Type 0
HasNone x = x.key ≡ []

-- no record without a key stands below another one
none_below : (x y : KeyedRecord) → HasNone x → HasNone y → key_order x.key y.key ≡ Less → ⊥
none_below x y none other below =
    let alike : Equal ≡ Less = sym (ap (λ k. key_order k y.key) none ∙ ap (λ k. key_order [] k) other) ∙ below in
    absurd (cc)

left_alone : (es : List Entry) (l : KeyedRecord) (right : Next) → HasNone l → AllByRecursion HasNone (rights es) → StandsBelow l (first_or (rights es) right) → AreAlone Left es
left_alone [] l right none all below = tt
left_alone (Pair x r c ∷ es) l right none all below = none_below l r none all.0 below
left_alone (Alone Left x ∷ es) l right none all below = (refl, left_alone es l right none all below)
left_alone (Alone Right r ∷ es) l right none all below = absurd (none_below l r none all.0 below)

right_alone : (es : List Entry) (r : KeyedRecord) (left : Next) → HasNone r → AllByRecursion HasNone (lefts es) → StandsBelow r (first_or (lefts es) left) → AreAlone Right es
right_alone [] r left none all below = tt
right_alone (Pair l x c ∷ es) r left none all below = none_below r l none all.0 below
right_alone (Alone Left l ∷ es) r left none all below = absurd (none_below r l none all.0 below)
right_alone (Alone Right x ∷ es) r left none all below = (refl, right_alone es r left none all below)

by_none : (es : List Entry) (left right : Next) → AllByRecursion HasNone (lefts es) → AllByRecursion HasNone (rights es) → AreMerged es left right → AreInOrder es
by_none [] left right none other merged = tt
by_none (Pair l r c ∷ es) left right none other merged = by_none es left right none.1 other.1 merged.1
by_none (Alone Left l ∷ es) left right none other merged = left_alone es l right none.0 other merged.0
by_none (Alone Right r ∷ es) left right none other merged = right_alone es r left other.0 none merged.0

pub in_order : MergesInOrder
in_order left_form right_form tree es left right left_keyed right_keyed merged =
    by_none es left right (all_become (IsKeyedRecord left_form tree []) HasNone (lefts es) (λ x keyed. keyed.key) left_keyed)
    (all_become (IsKeyedRecord right_form tree []) HasNone (rights es) (λ x keyed. keyed.key) right_keyed) merged
