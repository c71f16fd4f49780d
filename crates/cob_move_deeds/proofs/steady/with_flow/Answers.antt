use Rattle.std.proofs.Common.{length, subst}
use Rattle.cob_move_deeds.specs.Flows.{IsFlow}
use Rattle.cob_move_deeds.specs.declared.flow.Flow.{Flow}
use Rattle.cob_move_deeds.proofs.steady.with_flow.Goals as goal

pub returns-in-Moves : goal.returns-in-Moves
returns-in-Moves c = λ on found is.
    c.with_moves.ensures (length on.moves.marks.items) found (subst (λ (f : Flow). IsFlow on f) c.in-Moves.is is)
