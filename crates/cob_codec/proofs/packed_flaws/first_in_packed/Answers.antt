use Rattle.std.proofs.Common.{◌∙◌, arith, sym}
use Rattle.cob_codec.proofs.HalfLemmas.{length-halves}
use Rattle.cob_codec.proofs.packed_flaws.first_in_packed.Goals as goal

pub returns-then-not-suits-clause-found : goal.returns-then-not-suits-clause-found
returns-then-not-suits-clause-found c = record {
  within = omega (arith, c.loop-at-test.true, length-halves c.args.bytes.now);
  found_is = c.half_at-found.ensures;
  wanted_is = c.packed_wanted-wanted.ensures;
  unsuited = sym c.suits.ensures ∙ c.if-not-suits.true;
  before = c.loop-at.invariant;
}

pub returns-clause-none : goal.returns-clause-none
returns-clause-none c = λ k lt. c.loop-at.invariant k (omega (arith, lt, c.loop-at-test.false, length-halves c.args.bytes.now))
