use Rattle.std.proofs.Common.{◌∙◌, ◌+◌, ◌<◌, ℕ, arith, subst}
use Rattle.std.proofs.lemmas.List.{length-set}
use Rattle.cob_back_losses.proofs.EndLemmas.{known_or_place, set_end}
use Rattle.cob_back_losses.proofs.later.note_covered.Goals as goal

pub loop-at-preserved : goal.loop-at-preserved
loop-at-preserved c = record {
  ends = λ marks before all.
      let known = c.loop-at.invariant.ends marks before all in
      let place = c.args.place in
      set_end marks c.loop-at.ends c.loop-at.at c.max.result (omega (arith, c.loop-at-test.true, c.loop-at.invariant.room))
      (λ byte le below. known_or_place marks c.loop-at.ends place.offset (place.offset + place.length) c.loop-at.at (omega (arith, c.loop-at.auto.at)) all known byte le
      (subst (λ (n : ℕ). byte < n) c.max.ensures below)) known;
  room = length-set c.loop-at.ends c.loop-at.at c.max.result ∙ c.loop-at.invariant.room;
}
