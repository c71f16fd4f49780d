use Rattle.std.proofs.Common.{sym, ◌∙◌}
use Rattle.cob_back_moves.specs.Tested.{layout_records}
use Rattle.cob_back_losses.proofs.MovedLemmas.{of_all}
use Rattle.cob_back_losses.proofs.singles.singles_of.Goals as goal

pub returns : goal.returns
returns c =
    let l = c.args.moves.now.layouts in
    c.in_ok-singles.ensures ∙ sym (of_all l.reading (layout_records l) c.args.moves.now.statements.now)
