use Rattle.std.proofs.Common.{refl, ◌∙◌}
use Rattle.cob_layout_places.specs.Lengths.{times}
use Rattle.cob_layout_places.specs.Places.{place_of}
use Rattle.cob_layout.proofs.StandingLemmas.{answer, answer_current, answer_fits, own_spots}
use Rattle.cob_layout.proofs.layout.Layout.place_in.Goals as goal

pub element-requires-clause-spots : goal.element-requires-clause-spots
element-requires-clause-spots c = (c.args.counts.now.counts, c.spots.ensures ∙ own_spots c.args.self.now c.args.counts.now c.requires.stands)

pub returns-clause-value : goal.returns-clause-value
returns-clause-value c =
    let at = c.element.ensures c.args.counts.now.counts (c.spots.ensures ∙ own_spots c.args.self.now c.args.counts.now c.requires.stands) in
    answer (place_of (times c.args.counts.now.counts) c.args.reference.now.node c.args.self.now 0 0 c.args.reference.now.subscripts.items) c.element.result c.placed.result at c.placed.ensures

pub returns-clause-current : goal.returns-clause-current
returns-clause-current c =
    let at = c.element.ensures c.args.counts.now.counts (c.spots.ensures ∙ own_spots c.args.self.now c.args.counts.now c.requires.stands) in
    answer_current c.places_end_in_length.ensures c.args.self.now c.args.self.now c.args.counts.now.counts c.args.reference.now.node c.args.reference.now.subscripts.items c.element.result c.placed.result c.greatest.ensures.record refl c.requires.refers at c.placed.ensures

pub returns-clause-fits : goal.returns-clause-fits
returns-clause-fits c =
    let at = c.element.ensures c.args.counts.now.counts (c.spots.ensures ∙ own_spots c.args.self.now c.args.counts.now c.requires.stands) in
    answer_fits c.places_end_in_length.ensures c.args.self.now c.args.self.now c.args.counts.now.counts c.args.reference.now.node c.args.reference.now.subscripts.items c.element.result c.placed.result c.greatest.ensures.record refl c.requires.refers at c.placed.ensures
