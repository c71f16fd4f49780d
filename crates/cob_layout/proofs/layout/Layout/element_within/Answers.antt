use Rattle.std.proofs.Common.{◌==◌, ◌&&◌, true, false, refl, sym, subst, ◌∙◌, arith, inl, inr}
use Rattle.cob_copybook_tree.specs.Forests.{entries_in}
use Rattle.cob_copybook_tree.specs.Nodes.{tree_of}
use Rattle.cob_layout_places.specs.Counts.{tables_of}
use Rattle.cob_layout_places.specs.Needs.{Has, number_behind}
use Rattle.cob_layout.specs.Sound.{IsSound}
use Rattle.cob_layout.proofs.FindLemmas.{MeetsBy, meets_by}
use Rattle.cob_layout.proofs.FootingLemmas.{Asks, Named, asks, named}
use Rattle.cob_layout.proofs.NeedLemmas.{needs_below}
use Rattle.cob_layout.proofs.ReachLemmas.{Serves, serves}
use Rattle.cob_layout.proofs.ReadLaw.{known_in}
use Rattle.cob_layout.proofs.ReferenceLemmas.{refers_has}
use Rattle.cob_layout.proofs.layout.Layout.element_within.Goals as goal

pub footing_at-footing-requires : goal.footing_at-footing-requires
footing_at-footing-requires c =
    let t = tree_of c.self.inside.root in
    let u = c.args.self.now in
    let ways = c.self.inside.ways.items in
    let shifts = c.self.inside.shifts.items in
    let least = c.self.inside.least.items in
    let r = c.args.reference.now.node in
    let subscripts = c.args.reference.now.subscripts.items in
    let own : Named ways shifts least c.deref.result.now r = named t u ways shifts least c.deref.result.now c.self.inside.footings.items r subscripts c.self.view_is c.self.invariant.1 c.requires.refers c.self.invariant.6 c.self.invariant.11 c.deref.ensures.value c.self.invariant.14 in
    own.there

pub element_in-requires-clause-sums : goal.element_in-requires-clause-sums
element_in-requires-clause-sums c =
    let t = tree_of c.self.inside.root in
    let u = c.args.self.now in
    let ways = c.self.inside.ways.items in
    let shifts = c.self.inside.shifts.items in
    let least = c.self.inside.least.items in
    let r = c.args.reference.now.node in
    let subscripts = c.args.reference.now.subscripts.items in
    let own : Named ways shifts least c.deref.result.now r = named t u ways shifts least c.deref.result.now c.self.inside.footings.items r subscripts c.self.view_is c.self.invariant.1 c.requires.refers c.self.invariant.6 c.self.invariant.11 c.deref.ensures.value c.self.invariant.14 in
    let has : Has r u = refers_has r subscripts u c.requires.refers in
    let sound : IsSound u = subst IsSound c.self.view_is c.self.invariant.1 in
    let asked : Asks u r c.args.receiving c.args.reach =
    asks u ways shifts least r c.args.receiving c.args.reach c.footing_at-footing.result (tables_of t) (known_in t u ways (tables_of t) r c.self.invariant.1 c.self.view_is c.self.invariant.6 refl has)
    (c.footing_at-footing.ensures ∙ own.is c.footing_at-footing.result) (c.if-is_within.ensures.behind refl) (c.if-is_within.ensures.spares refl) in
    c.requires.sums (omega (arith, needs_below c.needs_are_read.ensures u r r sound.numbered has has (inr (inl refl)), asked.behind))

pub returns-then-is_within : goal.returns-then-is_within
returns-then-is_within c = λ bytes kept long keeps known.
    (let t = tree_of c.self.inside.root in
    let u = c.args.self.now in
    let ways = c.self.inside.ways.items in
    let shifts = c.self.inside.shifts.items in
    let least = c.self.inside.least.items in
    let r = c.args.reference.now.node in
    let subscripts = c.args.reference.now.subscripts.items in
    let own : Named ways shifts least c.deref.result.now r = named t u ways shifts least c.deref.result.now c.self.inside.footings.items r subscripts c.self.view_is c.self.invariant.1 c.requires.refers c.self.invariant.6 c.self.invariant.11 c.deref.ensures.value c.self.invariant.14 in
    let has : Has r u = refers_has r subscripts u c.requires.refers in
    let sound : IsSound u = subst IsSound c.self.view_is c.self.invariant.1 in
    let asked : Asks u r c.args.receiving c.args.reach =
    asks u ways shifts least r c.args.receiving c.args.reach c.footing_at-footing.result (tables_of t) (known_in t u ways (tables_of t) r c.self.invariant.1 c.self.view_is c.self.invariant.6 refl has)
    (c.footing_at-footing.ensures ∙ own.is c.footing_at-footing.result) (c.if-is_within.ensures.behind refl) (c.if-is_within.ensures.spares refl) in
    let so : Serves u r c.args.receiving c.args.counts.now c.args.sums.now kept =
    serves c.needs_are_read.ensures u r r c.args.receiving subscripts (number_behind true r u) c.args.reach (c.args.receiving && (number_behind false r u == entries_in u)) c.args.counts.now c.args.sums.now kept
    sound c.requires.refers refl refl refl asked.behind asked.spares known in
    let m : MeetsBy u bytes r c.args.receiving kept c.args.counts.now =
    meets_by c.needs_are_read.ensures c.one_place.ensures u bytes r c.args.receiving subscripts kept c.args.counts.now sound c.requires.refers long keeps so.met in
    (m.counts, m.needed, sym (m.place subscripts) ∙ c.element_in.ensures, m.kept, m.taken))
