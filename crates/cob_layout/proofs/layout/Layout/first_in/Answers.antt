use Rattle.std.proofs.Common.{◌≡◌, List, length, map, Some, ap, refl, sym, ◌∙◌, arith}
use Rattle.cob_copybook_tree.specs.Nodes.{tree_of}
use Rattle.cob_layout_places.specs.declared.places.Found.{Found}
use Rattle.cob_layout_places.specs.declared.spots.Spot.{Spot}
use Rattle.cob_layout.specs.Shifts.{all_shifted, CanShift}
use Rattle.cob_layout.specs.Ways.{held, held_at, moved, first_element}
use Rattle.cob_layout.proofs.EndLemmas.{same}
use Rattle.cob_layout.proofs.FootingLemmas.{Named, Rests, named, rests}
use Rattle.cob_layout.proofs.StandingLemmas.{element_is, element_fits}
use Rattle.cob_layout.proofs.ShiftLemmas.{all_stand, can_shift, growing_as}
use Rattle.cob_layout.proofs.SpotMoves.{end_moved}
use Rattle.cob_layout.proofs.layout.Layout.first_in.Goals as goal

pub footing_at-footing-requires : goal.footing_at-footing-requires
footing_at-footing-requires c =
    let t = tree_of c.self.inside.root in
    let u = c.args.self.now in
    let ways = c.self.inside.ways.items in
    let shifts = c.self.inside.shifts.items in
    let least = c.self.inside.least.items in
    let r = c.args.reference.now.node in
    let subscripts = c.args.reference.now.subscripts.items in
    let own : Named ways shifts least c.deref.result.now r = named t u ways shifts least c.deref.result.now c.self.inside.footings.items r subscripts c.self.view_is c.self.invariant.1 c.requires.refers c.self.invariant.6 c.self.invariant.11 c.deref.ensures.value c.self.invariant.14 in
    own.there

pub first_by-requires-clause-within : goal.first_by-requires-clause-within
first_by-requires-clause-within c =
    let t = tree_of c.self.inside.root in
    let u = c.args.self.now in
    let ways = c.self.inside.ways.items in
    let shifts = c.self.inside.shifts.items in
    let least = c.self.inside.least.items in
    let r = c.args.reference.now.node in
    let subscripts = c.args.reference.now.subscripts.items in
    let own : Named ways shifts least c.deref.result.now r = named t u ways shifts least c.deref.result.now c.self.inside.footings.items r subscripts c.self.view_is c.self.invariant.1 c.requires.refers c.self.invariant.6 c.self.invariant.11 c.deref.ensures.value c.self.invariant.14 in
    let grow = growing_as t u least least shifts c.self.inside.growths.items c.self.view_is c.self.invariant.1 refl c.self.invariant.10 c.self.invariant.11 c.self.invariant.12 in
    let sums_are = c.own_sums-sums.ensures ∙ c.requires.sums in
    let can : CanShift c.own_sums-sums.result.now shifts least = can_shift u least shifts c.self.inside.growths.items c.own_sums-sums.result.now c.args.counts.now grow sums_are in
    let so : Rests shifts least c.own_sums-sums.result.now c.args.counts.now r c.footing_at-footing.result =
    rests ways shifts least c.own_sums-sums.result.now c.args.counts.now r c.footing_at-footing.result can own.shift (c.footing_at-footing.ensures ∙ own.is c.footing_at-footing.result) in
    so.within

pub first_by-requires-clause-small : goal.first_by-requires-clause-small
first_by-requires-clause-small c =
    let t = tree_of c.self.inside.root in
    let u = c.args.self.now in
    let ways = c.self.inside.ways.items in
    let shifts = c.self.inside.shifts.items in
    let least = c.self.inside.least.items in
    let r = c.args.reference.now.node in
    let subscripts = c.args.reference.now.subscripts.items in
    let own : Named ways shifts least c.deref.result.now r = named t u ways shifts least c.deref.result.now c.self.inside.footings.items r subscripts c.self.view_is c.self.invariant.1 c.requires.refers c.self.invariant.6 c.self.invariant.11 c.deref.ensures.value c.self.invariant.14 in
    let grow = growing_as t u least least shifts c.self.inside.growths.items c.self.view_is c.self.invariant.1 refl c.self.invariant.10 c.self.invariant.11 c.self.invariant.12 in
    let sums_are = c.own_sums-sums.ensures ∙ c.requires.sums in
    let can : CanShift c.own_sums-sums.result.now shifts least = can_shift u least shifts c.self.inside.growths.items c.own_sums-sums.result.now c.args.counts.now grow sums_are in
    let so : Rests shifts least c.own_sums-sums.result.now c.args.counts.now r c.footing_at-footing.result =
    rests ways shifts least c.own_sums-sums.result.now c.args.counts.now r c.footing_at-footing.result can own.shift (c.footing_at-footing.ensures ∙ own.is c.footing_at-footing.result) in
    so.small

pub first_by-requires-clause-low : goal.first_by-requires-clause-low
first_by-requires-clause-low c =
    let t = tree_of c.self.inside.root in
    let u = c.args.self.now in
    let ways = c.self.inside.ways.items in
    let shifts = c.self.inside.shifts.items in
    let least = c.self.inside.least.items in
    let r = c.args.reference.now.node in
    let subscripts = c.args.reference.now.subscripts.items in
    let own : Named ways shifts least c.deref.result.now r = named t u ways shifts least c.deref.result.now c.self.inside.footings.items r subscripts c.self.view_is c.self.invariant.1 c.requires.refers c.self.invariant.6 c.self.invariant.11 c.deref.ensures.value c.self.invariant.14 in
    let grow = growing_as t u least least shifts c.self.inside.growths.items c.self.view_is c.self.invariant.1 refl c.self.invariant.10 c.self.invariant.11 c.self.invariant.12 in
    let sums_are = c.own_sums-sums.ensures ∙ c.requires.sums in
    let can : CanShift c.own_sums-sums.result.now shifts least = can_shift u least shifts c.self.inside.growths.items c.own_sums-sums.result.now c.args.counts.now grow sums_are in
    let so : Rests shifts least c.own_sums-sums.result.now c.args.counts.now r c.footing_at-footing.result =
    rests ways shifts least c.own_sums-sums.result.now c.args.counts.now r c.footing_at-footing.result can own.shift (c.footing_at-footing.ensures ∙ own.is c.footing_at-footing.result) in
    can.low

pub returns : goal.returns
returns c =
    let t = tree_of c.self.inside.root in
    let u = c.args.self.now in
    let ways = c.self.inside.ways.items in
    let shifts = c.self.inside.shifts.items in
    let least = c.self.inside.least.items in
    let r = c.args.reference.now.node in
    let subscripts = c.args.reference.now.subscripts.items in
    let own : Named ways shifts least c.deref.result.now r = named t u ways shifts least c.deref.result.now c.self.inside.footings.items r subscripts c.self.view_is c.self.invariant.1 c.requires.refers c.self.invariant.6 c.self.invariant.11 c.deref.ensures.value c.self.invariant.14 in
    let grow = growing_as t u least least shifts c.self.inside.growths.items c.self.view_is c.self.invariant.1 refl c.self.invariant.10 c.self.invariant.11 c.self.invariant.12 in
    let sums_are = c.own_sums-sums.ensures ∙ c.requires.sums in
    let can : CanShift c.own_sums-sums.result.now shifts least = can_shift u least shifts c.self.inside.growths.items c.own_sums-sums.result.now c.args.counts.now grow sums_are in
    let so : Rests shifts least c.own_sums-sums.result.now c.args.counts.now r c.footing_at-footing.result =
    rests ways shifts least c.own_sums-sums.result.now c.args.counts.now r c.footing_at-footing.result can own.shift (c.footing_at-footing.ensures ∙ own.is c.footing_at-footing.result) in
    let spots : List Spot = all_shifted c.own_sums-sums.result.now c.args.counts.now 0 shifts least in
    let are = all_stand u least shifts c.self.inside.growths.items c.own_sums-sums.result.now c.args.counts.now grow sums_are in
    element_is t u c.args.counts.now spots ways r subscripts c.self.invariant.1 c.self.view_is c.self.invariant.6 c.requires.refers are
    ∙ ap (λ (f : Found). Some f) (end_moved spots (held_at (map held ways) r).tables subscripts (first_element spots r) c.requires.none ∙ sym (c.first_by.ensures ∙ so.first))
