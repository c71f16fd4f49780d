use Rattle.std.proofs.Common.{◌≡◌, List, subst}
use Rattle.cob_codec.specs.declared.reading.Reading.TheVariants.{Pictured}
use Rattle.cob_move_data.specs.declared.operands.StatementMoves.{StatementMoves}
use Rattle.cob_move_data.specs.Moves.{Records, moves_by}
use Rattle.cob_move_apply.specs.Joined.{steps_in}
use Rattle.cob_move_apply.specs.Planned.{counted_steps}
use Rattle.cob_move_apply.specs.Steps.{StandFor, support_of}
use Rattle.cob_move_apply.proofs.ReadingLemmas.{are_moves_so}
use Rattle.cob_move_apply.proofs.moves.Moves.new.Goals as goal

pub returns-clause-prepared : goal.returns-clause-prepared
returns-clause-prepared c = λ x.
    let r : Records = record { input = c.args.input.now; output = c.args.output.now } in
    let (stand, count) = subst (λ (ss : List StatementMoves). StandFor x r ss c.in_ok-plan.plan.steps.items (support_of c.in_ok-plan.plan) (moves_by x r ss) × (counted_steps c.in_ok-plan.plan.steps.items ≡ steps_in r (moves_by x r ss))) c.as_slice.ensures.value
    (c.in_ok-plan.ensures.stand x, c.in_ok-plan.ensures.count x) in
    (stand, count, are_moves_so x Pictured r c.args.given.items c.requires.given)
