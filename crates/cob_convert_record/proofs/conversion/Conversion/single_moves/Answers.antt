use Rattle.std.proofs.Common.{◌∙◌, List, ap, min, sym}
use Rattle.cob_move_data.specs.Moves.{Move, Records}
use Rattle.cob_move_apply.specs.Prepared.{most_moves_told, single_moves}
use Rattle.cob_move_deeds.specs.Deeds.{moves_of_deeds}
use Rattle.cob_convert_record.specs.Conversion.{Conversion}
use Rattle.cob_convert_record.proofs.conversion.Conversion.single_moves.Goals as goal

pub returns : goal.returns
returns c =
    let r : Records = record { input = c.self.inside.input; output = c.self.inside.output } in
    let (ready, whole, image, long, comes, goes) = c.self.invariant in
    c.single_moves.ensures r
    ∙ ap (λ (ms : List Move). min (single_moves ms) most_moves_told) (sym whole)
    ∙ ap (λ (x : Conversion). min (single_moves (moves_of_deeds x.deeds)) most_moves_told) c.self.view_is
