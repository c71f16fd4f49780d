use Rattle.std.proofs.Common.{◌≡◌, ◌∙◌, ◌++◌, ◌+◌, ◌-◌, ◌<◌, ℕ, List, Bool, ap, arith, drop, get_or, length, map, reverse, subst, sym, take}
use Rattle.std.proofs.lemmas.List.{length-map, take_at}
use Rattle.cob_back_losses.specs.Moved.{TellsEach}
use Rattle.cob_back_losses.specs.Seen.{AreEnds, MarkCoveredBytes, seen_single}
use Rattle.cob_back_losses.proofs.CoveredLemmas.{marks_next, told_next}
use Rattle.cob_back_losses.proofs.MovedLemmas.{mapped_read}
use Rattle.cob_back_losses.proofs.paragraph.lost_from_end.Goals as goal

pub loop-step-preserved : goal.loop-step-preserved
loop-step-preserved c =
    let tree = c.args.output.now in
    let n = length c.args.singles.now in
    let i = n - (c.loop-step.step + 1) in
    let ms = map seen_single c.args.singles.now in
    let s = c.index-singles-count.result in
    let e : n - c.loop-step.step ≡ i + 1 = omega (arith, c.loop-step-test.true) in
    let place : n - 1 - c.loop-step.step ≡ i = omega (arith, c.loop-step-test.true) in
    let within : i < n = omega (arith, c.loop-step-test.true) in
    let read : s ≡ get_or c.args.singles.now i s = subst (λ (j : ℕ). s ≡ get_or c.args.singles.now j s) place c.index-singles-count.is in
    let seen_read = mapped_read seen_single c.args.singles.now i s within read in
    let inside : i < length ms = omega (arith, within, length-map c.args.singles.now seen_single) in
    let told : TellsEach tree (drop (i + 1) ms) (reverse c.loop-step.all.items) = subst (λ (j : ℕ). TellsEach tree (drop j ms) (reverse c.loop-step.all.items)) e c.loop-step.invariant.told in
    let before : MarkCoveredBytes tree (drop (i + 1) ms) c.loop-step.covered.items = subst (λ (j : ℕ). MarkCoveredBytes tree (drop j ms) c.loop-step.covered.items) e c.loop-step.invariant.marks in
    let marked : MarkCoveredBytes tree (drop (i + 1) ms) c.deref_mut.result.now = subst (λ (bs : List Bool). MarkCoveredBytes tree (drop (i + 1) ms) bs) (sym c.deref_mut.ensures.value) before in
    let long : length c.lost_before.new.covered ≡ c.loop-step.covered.len = omega (arith, c.lost_before.ensures.room, c.deref_mut.ensures.len) in
    let written : take c.loop-step.covered.len (c.lost_before.new.covered ++ drop (length c.lost_before.new.covered) c.loop-step.covered.items) ≡ c.lost_before.new.covered =
    take_at c.lost_before.new.covered _ c.loop-step.covered.len long in
    let ends_long : length c.lost_before.new.ends ≡ c.loop-step.ends.len = omega (arith, c.lost_before.ensures.ends, c.deref_mut-in-loop-step.ensures.len) in
    let ends_written : take c.loop-step.ends.len (c.lost_before.new.ends ++ drop (length c.lost_before.new.ends) c.loop-step.ends.items) ≡ c.lost_before.new.ends =
    take_at c.lost_before.new.ends _ c.loop-step.ends.len ends_long in
    record {
      told = told_next tree ms i (seen_single s) c.loop-step.all.items c.push.new.self.items c.in_ok-lost_before.field-0 inside seen_read c.in_ok-push.ensures.items (c.in_ok-lost_before.ensures.told (drop (i + 1) ms) marked) told;
      marks = subst
          (λ (bs : List Bool). MarkCoveredBytes tree (drop i ms) bs)
          (sym written)
          (marks_next tree ms i (seen_single s) c.lost_before.new.covered inside seen_read (c.in_ok-lost_before.ensures.marks (drop (i + 1) ms) marked));
      known = subst
          (λ (bs : List Bool). AreEnds bs (take c.loop-step.ends.len (c.lost_before.new.ends ++ drop (length c.lost_before.new.ends) c.loop-step.ends.items)))
          (sym written)
          (subst (λ (es : List ℕ). AreEnds c.lost_before.new.covered es) (sym ends_written) c.in_ok-lost_before.ensures.known);
      room = ap length ends_written ∙ c.lost_before.ensures.ends ∙ ap length c.deref_mut-in-loop-step.ensures.value ∙ c.loop-step.invariant.room
          ∙ sym (ap length c.deref_mut.ensures.value) ∙ sym c.lost_before.ensures.room ∙ sym (ap length written);
    }
