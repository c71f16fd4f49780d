use Rattle.std.proofs.Common.{◌≡◌, ◌∙◌, Some, ap, arith, length, refl, sym}
use Rattle.cob_layout_places.specs.declared.places.Found.{Found}
use Rattle.cob_layout.specs.Placed.{element_under}
use Rattle.cob_layout.specs.Sound.{IsSound}
use Rattle.cob_layout.specs.Standing.{RoomForCounts}
use Rattle.cob_layout.specs.Summed.{summed_to}
use Rattle.cob_layout.proofs.ReachLemmas.{reach_in}
use Rattle.cob_layout.proofs.ShiftLemmas.{summed}
use Rattle.cob_layout.proofs.StandingLemmas.{answer, answer_fits}
use Rattle.cob_layout.proofs.SummedLemmas.{found_by_sums, place_of_found, sums_within}
use Rattle.cob_layout.proofs.layout.Layout.place_by_sums.Goals as goal

pub summed_to-found-requires-clause-before : goal.summed_to-found-requires-clause-before
summed_to-found-requires-clause-before c =
    let u = c.args.self.now in
    let sound : IsSound u = c.records_are_sound.ensures u c.greatest.ensures.record in
    let r = c.args.reference.now in
    let e = c.counts.inside.next.items in
    let reach = c.counts.inside.reach in
    let known = reach_in u _ c.args.counts.now reach _ _ e c.deref.result.now c.counts.view_is c.requires.room refl c.deref.ensures.value c.counts.invariant.3 in
    let are = c.own_sums.ensures ∙ sums_within c.needs_are_read.ensures u r c.args.receiving c.args.summed.now reach e c.deref.result.now c.args.counts.now.kept sound c.requires.refers c.requires.summed (c.if-not-are_within.ensures refl) known in
    omega (arith, c.requires.summed.before, ap length are, (summed u e sound).long)

pub summed_to-found-requires-clause-through : goal.summed_to-found-requires-clause-through
summed_to-found-requires-clause-through c =
    let u = c.args.self.now in
    let sound : IsSound u = c.records_are_sound.ensures u c.greatest.ensures.record in
    let r = c.args.reference.now in
    let e = c.counts.inside.next.items in
    let reach = c.counts.inside.reach in
    let known = reach_in u _ c.args.counts.now reach _ _ e c.deref.result.now c.counts.view_is c.requires.room refl c.deref.ensures.value c.counts.invariant.3 in
    let are = c.own_sums.ensures ∙ sums_within c.needs_are_read.ensures u r c.args.receiving c.args.summed.now reach e c.deref.result.now c.args.counts.now.kept sound c.requires.refers c.requires.summed (c.if-not-are_within.ensures refl) known in
    omega (arith, c.requires.summed.through, ap length are, (summed u e sound).long)

pub summed_to-found-requires-clause-rises : goal.summed_to-found-requires-clause-rises
summed_to-found-requires-clause-rises c =
    let u = c.args.self.now in
    let sound : IsSound u = c.records_are_sound.ensures u c.greatest.ensures.record in
    let r = c.args.reference.now in
    let e = c.counts.inside.next.items in
    let reach = c.counts.inside.reach in
    let known = reach_in u _ c.args.counts.now reach _ _ e c.deref.result.now c.counts.view_is c.requires.room refl c.deref.ensures.value c.counts.invariant.3 in
    let are = c.own_sums.ensures ∙ sums_within c.needs_are_read.ensures u r c.args.receiving c.args.summed.now reach e c.deref.result.now c.args.counts.now.kept sound c.requires.refers c.requires.summed (c.if-not-are_within.ensures refl) known in
    rw are (c.requires.summed.rises e)

pub summed_to-found-requires-clause-low : goal.summed_to-found-requires-clause-low
summed_to-found-requires-clause-low c =
    let u = c.args.self.now in
    let sound : IsSound u = c.records_are_sound.ensures u c.greatest.ensures.record in
    let r = c.args.reference.now in
    let e = c.counts.inside.next.items in
    let reach = c.counts.inside.reach in
    let known = reach_in u _ c.args.counts.now reach _ _ e c.deref.result.now c.counts.view_is c.requires.room refl c.deref.ensures.value c.counts.invariant.3 in
    let are = c.own_sums.ensures ∙ sums_within c.needs_are_read.ensures u r c.args.receiving c.args.summed.now reach e c.deref.result.now c.args.counts.now.kept sound c.requires.refers c.requires.summed (c.if-not-are_within.ensures refl) known in
    rw are (summed u e sound).low

pub returns-clause-found : goal.returns-clause-found
returns-clause-found c =
    let u = c.args.self.now in
    let sound : IsSound u = c.records_are_sound.ensures u c.greatest.ensures.record in
    let r = c.args.reference.now in
    let e = c.counts.inside.next.items in
    let reach = c.counts.inside.reach in
    let known = reach_in u _ c.args.counts.now reach _ _ e c.deref.result.now c.counts.view_is c.requires.room refl c.deref.ensures.value c.counts.invariant.3 in
    let are = c.own_sums.ensures ∙ sums_within c.needs_are_read.ensures u r c.args.receiving c.args.summed.now reach e c.deref.result.now c.args.counts.now.kept sound c.requires.refers c.requires.summed (c.if-not-are_within.ensures refl) known in
    let long = ap (λ (x : RoomForCounts). x.tables) c.requires.room in
    let found = found_by_sums c.needs_are_read.ensures c.one_place.ensures u r c.args.receiving c.args.bytes.now c.args.summed.now reach e c.deref.result.now c.args.counts.now.kept sound c.requires.refers long c.requires.kept c.requires.summed (c.if-not-are_within.ensures refl) known in
    let is : c.summed_to-found.result ≡ summed_to c.args.summed.now _ = c.summed_to-found.ensures ∙ ap (summed_to c.args.summed.now) are in
    let at : element_under found.0 u r ≡ Some c.summed_to-found.result = found.2 ∙ ap (λ (f : Found). Some f) (sym is) in
    (found.0, found.1, answer (element_under found.0 u r) c.summed_to-found.result _ at (place_of_found c.summed_to-found.result (ap (λ (f : Found). f.within) is)))

pub returns-clause-fits : goal.returns-clause-fits
returns-clause-fits c =
    let u = c.args.self.now in
    let sound : IsSound u = c.records_are_sound.ensures u c.greatest.ensures.record in
    let r = c.args.reference.now in
    let e = c.counts.inside.next.items in
    let reach = c.counts.inside.reach in
    let known = reach_in u _ c.args.counts.now reach _ _ e c.deref.result.now c.counts.view_is c.requires.room refl c.deref.ensures.value c.counts.invariant.3 in
    let are = c.own_sums.ensures ∙ sums_within c.needs_are_read.ensures u r c.args.receiving c.args.summed.now reach e c.deref.result.now c.args.counts.now.kept sound c.requires.refers c.requires.summed (c.if-not-are_within.ensures refl) known in
    let long = ap (λ (x : RoomForCounts). x.tables) c.requires.room in
    let found = found_by_sums c.needs_are_read.ensures c.one_place.ensures u r c.args.receiving c.args.bytes.now c.args.summed.now reach e c.deref.result.now c.args.counts.now.kept sound c.requires.refers long c.requires.kept c.requires.summed (c.if-not-are_within.ensures refl) known in
    let is : c.summed_to-found.result ≡ summed_to c.args.summed.now _ = c.summed_to-found.ensures ∙ ap (summed_to c.args.summed.now) are in
    let at : element_under found.0 u r ≡ Some c.summed_to-found.result = found.2 ∙ ap (λ (f : Found). Some f) (sym is) in
    answer_fits c.places_end_in_length.ensures u u found.0 r.node r.subscripts.items c.summed_to-found.result _ c.greatest.ensures.record refl c.requires.refers at (place_of_found c.summed_to-found.result (ap (λ (f : Found). f.within) is))
