use Rattle.std.proofs.Common.{◌∙◌, List, ap, sym}
use Rattle.std.specs.Prelude.{min}
use Rattle.cob_move_apply.specs.Told.{most_moves_told, single_moves}
use Rattle.cob_move_data.specs.Moves.{Move}
use Rattle.cob_move.proofs.paragraph.Paragraph.moves.Goals as goal

pub returns : goal.returns
returns c = λ r ready. c.single_moves.ensures r ∙ ap (λ (ms : List Move). min (single_moves ms) most_moves_told) (sym ready.all)
