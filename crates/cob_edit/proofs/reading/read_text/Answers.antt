use Rattle.std.proofs.Common.{◌≡◌, ℕ, ◌∙◌, sym, Bool, true, false, List, IsTrue, subst}
use Rattle.cob_edit.specs.Editing.{IsText, FitsPlaces}
use Rattle.cob_edit.proofs.ExtractLemmas.{extract_edited, plus_fits}
use Rattle.cob_edit.proofs.OneValueLemmas.{one_reading}
use Rattle.cob_edit.proofs.reading.read_text.Goals as goal

pub returns-then-is_text-clause-only : goal.returns-then-is_text-clause-only
returns-then-is_text-clause-only c n ds fits text =
    let own : IsText c.args.places.now c.args.blank false c.digits_in-digits.result c.args.bytes.now =
    subst (λ xs. IsText c.args.places.now c.args.blank false xs c.args.bytes.now) c.as_slice.ensures.value (c.is_text.ensures.0 c.if-is_text.true)
    in
    one_reading c.args.places.now c.args.blank false n c.digits_in-digits.result ds c.args.bytes.now (plus_fits c.args.places.now c.digits_in-digits.result c.digits_in-digits.ensures.valid c.digits_in-digits.ensures.count) fits own text

pub returns-then-is_negative_text-clause-only : goal.returns-then-is_negative_text-clause-only
returns-then-is_negative_text-clause-only c n ds fits text =
    let own : FitsPlaces c.args.places.now true c.digits_in-digits.result × IsText c.args.places.now c.args.blank true c.digits_in-digits.result c.args.bytes.now =
    subst (λ xs. FitsPlaces c.args.places.now true xs × IsText c.args.places.now c.args.blank true xs c.args.bytes.now) c.as_slice-2.ensures.value (c.is_negative_text.ensures.0 c.if-is_negative_text.true)
    in
    one_reading c.args.places.now c.args.blank true n c.digits_in-digits.result ds c.args.bytes.now own.0 fits own.1 text

pub returns-clause-only : goal.returns-clause-only
returns-clause-only c = go
  where
    same : (n : Bool) (ds : List ℕ) → FitsPlaces c.args.places.now n ds → IsText c.args.places.now c.args.blank n ds c.args.bytes.now → c.digits_in-digits.result ≡ ds
    same n ds fits text = c.digits_in-digits.ensures.value ∙ extract_edited c.args.places.now c.args.blank n ds c.args.bytes.now fits text

    go : (n : Bool) (ds : List ℕ) → FitsPlaces c.args.places.now n ds → IsText c.args.places.now c.args.blank n ds c.args.bytes.now → ⊥
    go false ds fits text =
        let own : IsText c.args.places.now c.args.blank false c.as_slice.result.now c.args.bytes.now =
        subst (λ xs. IsText c.args.places.now c.args.blank false xs c.args.bytes.now) (sym (c.as_slice.ensures.value ∙ same false ds fits text)) text
        in
        let t : IsTrue false = rw c.if-is_text.false at (c.is_text.ensures.1 own) in
        absurd (cc)
    go true ds fits text =
        let back : ds ≡ c.as_slice-2.result.now = sym (c.as_slice-2.ensures.value ∙ same true ds fits text) in
        let own_fits : FitsPlaces c.args.places.now true c.as_slice-2.result.now = subst (λ xs. FitsPlaces c.args.places.now true xs) back fits in
        let own : IsText c.args.places.now c.args.blank true c.as_slice-2.result.now c.args.bytes.now = subst (λ xs. IsText c.args.places.now c.args.blank true xs c.args.bytes.now) back text in
        let t : IsTrue false = rw c.if-is_negative_text.false at (c.is_negative_text.ensures.1 (own_fits, own)) in
        absurd (cc)
