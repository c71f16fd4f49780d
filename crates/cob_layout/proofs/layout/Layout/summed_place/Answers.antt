use Rattle.std.proofs.Common.{◌∙◌, refl}
use Rattle.cob_copybook_tree.specs.Nodes.{tree_of}
use Rattle.cob_layout_places.specs.Counts.{tables_of}
use Rattle.cob_layout.proofs.FootingLemmas.{Named, named}
use Rattle.cob_layout.proofs.ReadLaw.{known_in}
use Rattle.cob_layout.proofs.ReferenceLemmas.{refers_has}
use Rattle.cob_layout.proofs.ShiftLemmas.{growing_as}
use Rattle.cob_layout.proofs.SummedLemmas.{summed_places}
use Rattle.cob_layout.proofs.layout.Layout.summed_place.Goals as goal

pub footing_at-footing-requires : goal.footing_at-footing-requires
footing_at-footing-requires c =
    let own : Named c.self.inside.ways.items c.self.inside.shifts.items c.self.inside.least.items c.deref.result.now c.args.reference.now.node =
    named (tree_of c.self.inside.root) c.args.self.now c.self.inside.ways.items c.self.inside.shifts.items c.self.inside.least.items c.deref.result.now c.self.inside.footings.items c.args.reference.now.node c.args.reference.now.subscripts.items
    c.self.view_is c.self.invariant.1 c.requires.refers c.self.invariant.6 c.self.invariant.11 c.deref.ensures.value c.self.invariant.14 in
    own.there

pub returns : goal.returns
returns c =
    let t = tree_of c.self.inside.root in
    let u = c.args.self.now in
    let ways = c.self.inside.ways.items in
    let shifts = c.self.inside.shifts.items in
    let least = c.self.inside.least.items in
    let r = c.args.reference.now in
    let own : Named ways shifts least c.deref.result.now r.node =
    named t u ways shifts least c.deref.result.now c.self.inside.footings.items r.node r.subscripts.items c.self.view_is c.self.invariant.1 c.requires.refers c.self.invariant.6 c.self.invariant.11 c.deref.ensures.value c.self.invariant.14 in
    let grow = growing_as t u least least shifts c.self.inside.growths.items c.self.view_is c.self.invariant.1 refl c.self.invariant.10 c.self.invariant.11 c.self.invariant.12 in
    let known = known_in t u ways (tables_of t) r.node c.self.invariant.1 c.self.view_is c.self.invariant.6 refl (refers_has r.node r.subscripts.items u c.requires.refers) in
    summed_places u ways least shifts c.self.inside.growths.items (tables_of t) r c.args.receiving c.footing_at-footing.result c.in_ok-further.further c.summed_by.result grow known own.shift
    (c.footing_at-footing.ensures ∙ own.is c.footing_at-footing.result) (c.if-not-is_within.ensures.spares refl) c.in_ok-further.ensures c.summed_by.ensures
