use Rattle.std.proofs.Common.{◌∙◌, ap, min}
use Rattle.cob_move_apply.specs.Planned.{counted_steps}
use Rattle.cob_move_apply.specs.Told.{most_moves_told}
use Rattle.cob_move_apply.proofs.marked.MarkedMoves.steps.Goals as goal

pub returns : goal.returns
returns c = λ r prepared.
    c.counted.ensures ∙ ap (λ n. min n most_moves_told) (ap counted_steps c.as_slice.ensures.value ∙ prepared.parted.count c.args.self.now.moves.reading)
