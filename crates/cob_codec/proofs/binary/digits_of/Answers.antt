use Rattle.std.proofs.Common.{◌≡◌, ℕ, ◌+◌, ◌-◌, ◌*◌, ◌/◌, ◌%◌, ◌^◌, ◌≤◌, List, ◌∷◌, length, drop, ap, sym, ◌∙◌, arith, length-drop}
use Rattle.std.proofs.Math.ListN.{set, length-set}
use Rattle.std.proofs.lemmas.List.{take_all}
use Rattle.cob_decimal.specs.Decimal.{number_of}
use Rattle.cob_codec.proofs.BinaryLemmas.{drop_set, lowest, none_left}
use Rattle.cob_codec.proofs.binary.digits_of.Goals as goal

pub loop-place-preserved : goal.loop-place-preserved
loop-place-preserved c =
    let p : ℕ = c.loop-place.place in
    let at : ℕ = 19 - p in
    let d : ℕ = c.loop-place.rest % 10 in
    let tail : List ℕ = drop (20 - p) c.loop-place.places in
    let long : length c.loop-place.places ≡ 20 = c.loop-place.invariant.long in
    let before : 20 - (p + 1) ≡ at = omega arith in
    let after : at + 1 ≡ 20 - p = omega arith in
    let many : length tail ≡ p = omega (arith, length-drop (20 - p) c.loop-place.places) in
    let text : drop (20 - (p + 1)) (set c.loop-place.places at d) ≡ d ∷ tail = ap (λ k. drop k (set c.loop-place.places at d)) before ∙ drop_set c.loop-place.places at d (omega arith) ∙ ap (λ k. d ∷ drop k c.loop-place.places) after in
    record {
      long = length-set c.loop-place.places at d ∙ long;
      value = c.loop-place.invariant.value ∙ lowest c.loop-place.rest p (number_of tail) ∙ ap (λ k. c.loop-place.rest / 10 * 10 ^ (p + 1) + (d * 10 ^ k + number_of tail)) (sym many) ∙ ap (λ xs. c.loop-place.rest / 10 * 10 ^ (p + 1) + number_of xs) (sym text);
      valid = rw text (omega arith, c.loop-place.invariant.valid);
    }

pub returns-clause-value : goal.returns-clause-value
returns-clause-value c =
    let all : c.loop-place.place ≡ c.args.count = omega arith in
    let tail : List ℕ = drop (20 - c.args.count) c.loop-place.places in
    let long : length tail ≤ 20 - (20 - c.args.count) = omega (arith, length-drop (20 - c.args.count) c.loop-place.places, c.loop-place.invariant.long) in
    ap number_of (c.digits_from.ensures ∙ take_all (20 - (20 - c.args.count)) tail long)
    ∙ ap (λ k. number_of (drop (20 - k) c.loop-place.places)) (sym all)
    ∙ sym (none_left c.loop-place.rest (10 ^ c.loop-place.place) (number_of (drop (20 - c.loop-place.place) c.loop-place.places)) c.args.number c.loop-place.invariant.value (rw all c.requires.fits))
