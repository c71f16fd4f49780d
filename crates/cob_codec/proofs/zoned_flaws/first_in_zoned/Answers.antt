use Rattle.std.proofs.Common.{◌≡◌, ◌∙◌, ℕ, ap, arith, slice_index, subst, sym, true}
use Rattle.cob_codec.specs.Packed.{halves}
use Rattle.cob_codec.specs.Flaws.{suits, zoned_wanted}
use Rattle.cob_codec.proofs.HalfLemmas.{length-halves}
use Rattle.cob_codec.proofs.zoned_flaws.first_in_zoned.Goals as goal

pub returns-then-not-suits-clause-found : goal.returns-then-not-suits-clause-found
returns-then-not-suits-clause-found c = record {
  within = omega (arith, c.loop-at-test.true, length-halves c.args.bytes.now);
  found_is = c.half_at-found.ensures;
  wanted_is = c.zoned_wanted-wanted.ensures ∙ ap (λ (place : ℕ). zoned_wanted place c.loop-at.at) c.sign_place-place.ensures.place;
  unsuited = sym c.suits.ensures ∙ c.if-not-suits.true;
  before = λ k lt. subst (λ (place : ℕ). suits c.args.shape.now.signed (zoned_wanted place k) (slice_index (halves c.args.bytes.now) k) ≡ true) c.sign_place-place.ensures.place (c.loop-at.invariant k lt);
}

pub returns-clause-none : goal.returns-clause-none
returns-clause-none c = λ k lt.
    subst (λ (place : ℕ). suits c.args.shape.now.signed (zoned_wanted place k) (slice_index (halves c.args.bytes.now) k) ≡ true) c.sign_place-place.ensures.place
    (c.loop-at.invariant k (omega (arith, lt, c.loop-at-test.false, length-halves c.args.bytes.now)))
