use Rattle.std.proofs.Common.{ap, ◌∙◌}
use Rattle.cob_move_data.specs.Moves.{Records}
use Rattle.cob_move_deeds.specs.Deeds.{Deeds}
use Rattle.cob_move_deeds.specs.Tests.{Test}
use Rattle.cob_convert_record.specs.Conversion.{Conversion, conversion_by}
use Rattle.cob_convert_record.proofs.conversion.Conversion.with_reading.Goals as goal

pub invariant_of-result : goal.invariant_of-result
invariant_of-result c =
    let r : Records = record { input = c.self.inside.input; output = c.self.inside.output } in
    let (ready, whole, image, long, comes, goes) = c.self.invariant in
    (c.with_reading.ensures.prepared r ready, c.with_reading.ensures.whole r whole, image, long, comes, goes)

pub returns : goal.returns
returns c =
    let r : Records = record { input = c.self.inside.input; output = c.self.inside.output } in
    let of : Deeds Test → Conversion = λ d. record { in_form = c.self.inside.in_form; out_form = c.self.inside.out_form; records = r; deeds = d } in
    ap of (c.with_reading.ensures.deeds r) ∙ ap (conversion_by c.args.reading) c.self.view_is
