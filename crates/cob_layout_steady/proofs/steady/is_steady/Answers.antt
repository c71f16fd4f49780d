use Rattle.cob_layout_steady.proofs.SteadyLemmas.{decides}
use Rattle.cob_layout_steady.proofs.steady.is_steady.Goals as goal

pub returns : goal.returns
returns c =
    let r = c.args.reference.now in
    decides c.args.layout.now r.node r.subscripts.items c.greatest_counts.result.now.counts c.place_in-greatest.result c.least_place.result c.offset_by.result c.begins_at.result
    c.greatest_counts.ensures.greatest c.place_in-greatest.ensures.value c.least_place.ensures c.offset_by.ensures c.begins_at.ensures
