use Rattle.std.proofs.Common.{true}
use Rattle.cob_move_data.specs.Moves.{operand_in}
use Rattle.cob_move_apply.proofs.PlaceLemmas.{fixed}
use Rattle.cob_move_apply.proofs.cutting.leaves_place.Goals as goal

pub returns-in-Some : goal.returns-in-Some
returns-in-Some c = λ yes.
    (c.in-Some.to, fixed c.args.output.now true (operand_in c.args.output.now c.args.receiver.now) c.in-Some.to c.in-Some.ensures.fixed c.in-Some.ensures.value c.in-Some.ensures.fits, c.are_apart.ensures yes)
