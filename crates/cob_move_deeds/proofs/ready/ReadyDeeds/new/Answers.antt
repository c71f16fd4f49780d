use Rattle.std.proofs.Common.{◌∙◌, List, ap, length, ℕ}
use Rattle.cob_move_deeds.specs.AtOnce.{are_all_moves}
use Rattle.cob_move_deeds.specs.declared.flow.Flow.{Flow}
use Rattle.cob_move_deeds.proofs.ready.ReadyDeeds.new.Goals as goal

pub invariant_of-result : goal.invariant_of-result
invariant_of-result c = record {
  told = c.carry_all-at_once.ensures ∙ ap (λ (n : ℕ). are_all_moves n c.as_slice.result.now) c.marks.ensures
      ∙ ap (λ (fs : List Flow). are_all_moves (length c.args.moves.marks.items) fs) c.as_slice.ensures.value;
}
