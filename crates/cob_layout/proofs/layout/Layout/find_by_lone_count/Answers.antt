use Rattle.std.proofs.Common.{refl}
use Rattle.cob_layout.proofs.StandingLemmas.{answer_fits}
use Rattle.cob_layout.proofs.layout.Layout.find_by_lone_count.Goals as goal

pub returns-in-Ok-placed-clause-fits : goal.returns-in-Ok-placed-clause-fits
returns-in-Ok-placed-clause-fits c =
    let came = c.in-Ok.ensures.came in
    let fits = answer_fits c.places_end_in_length.ensures c.args.self.now c.args.self.now came.0 c.args.reference.now.node c.args.reference.now.subscripts.items c.in-Ok.found c.placed.result c.greatest.ensures.record refl c.requires.refers came.2 c.placed.ensures in
    rw c.in-Ok-placed.is at fits
