use Rattle.std.proofs.Common.{ap, refl}
use Rattle.cob_layout.specs.Finding.{IsFoundKept}
use Rattle.cob_layout.specs.Standing.{RoomForCounts}
use Rattle.cob_layout.proofs.ReachLemmas.{reach_in, reach_sums}
use Rattle.cob_layout.proofs.StandingLemmas.{answer_fits}
use Rattle.cob_layout.proofs.layout.Layout.place_at_once.Goals as goal

pub element_within-requires-clause-sums : goal.element_within-requires-clause-sums
element_within-requires-clause-sums c =
    reach_sums c.args.self.now c.counts.inside.reach c.deref-2.result.now c.deref.result.now c.args.counts.now.kept
    (reach_in c.args.self.now _ c.args.counts.now _ _ _ _ _ c.counts.view_is c.requires.room c.deref-2.ensures.value c.deref.ensures.value c.counts.invariant.3)

pub returns-in-Ok-clause-fits : goal.returns-in-Ok-clause-fits
returns-in-Ok-clause-fits c =
    let h : IsFoundKept c.args.self.now c.args.reference.now c.args.receiving c.args.bytes.now c.args.counts.now.kept c.in-Some.found =
    c.in-Some.ensures c.args.bytes.now c.args.counts.now.kept (ap (λ (x : RoomForCounts). x.tables) c.requires.room) c.requires.kept
    (reach_in c.args.self.now _ c.args.counts.now _ _ _ _ _ c.counts.view_is c.requires.room c.deref-2.ensures.value c.deref.ensures.value c.counts.invariant.3) in
    let fits = answer_fits c.places_end_in_length.ensures c.args.self.now c.args.self.now h.0 c.args.reference.now.node c.args.reference.now.subscripts.items c.in-Some.found c.placed.result c.greatest.ensures.record refl c.requires.refers h.2 c.placed.ensures in
    rw c.in-Ok.is at fits
