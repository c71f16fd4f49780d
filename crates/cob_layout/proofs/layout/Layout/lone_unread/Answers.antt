use Rattle.std.proofs.Common.{◌∙◌, ap, refl, subst, sym}
use Rattle.cob_copybook_tree.specs.Forests.{Forest}
use Rattle.cob_copybook_tree.specs.Nodes.{Resolved, tree_of}
use Rattle.cob_layout_places.specs.Counts.{tables_of}
use Rattle.cob_layout_places.specs.Lengths.{times}
use Rattle.cob_layout_places.specs.Needs.{Has}
use Rattle.cob_layout_places.specs.Spots.{spots_of}
use Rattle.cob_layout.specs.Counting.{greatest_counts}
use Rattle.cob_layout.specs.Lone.{IsLoneTable}
use Rattle.cob_layout.specs.Sound.{IsSound}
use Rattle.cob_layout.proofs.FootingLemmas.{Named, named}
use Rattle.cob_layout.proofs.LoneLemmas.{reads_table, unread_one}
use Rattle.cob_layout.proofs.LoneSumLemmas.{lone_in}
use Rattle.cob_layout.proofs.ReadLaw.{known_in}
use Rattle.cob_layout.proofs.ReferenceLemmas.{refers_has}
use Rattle.cob_layout.proofs.ShiftLemmas.{growing_as}
use Rattle.cob_layout.proofs.layout.Layout.lone_unread.Goals as goal

pub footing_at-footing-requires : goal.footing_at-footing-requires
footing_at-footing-requires c =
    let own : Named c.self.inside.ways.items c.self.inside.shifts.items c.self.inside.least.items c.deref.result.now c.args.reference.now.node =
    named (tree_of c.self.inside.root) c.args.self.now c.self.inside.ways.items c.self.inside.shifts.items c.self.inside.least.items c.deref.result.now c.self.inside.footings.items c.args.reference.now.node c.args.reference.now.subscripts.items
    c.self.view_is c.self.invariant.1 c.requires.refers c.self.invariant.6 c.self.invariant.11 c.deref.ensures.value c.self.invariant.14 in
    own.there

pub returns-then-asks_for-clause-lone : goal.returns-then-asks_for-clause-lone
returns-then-asks_for-clause-lone c =
    let t = tree_of c.self.inside.root in
    let u = c.args.self.now in
    let least = c.self.inside.least.items in
    let shifts = c.self.inside.shifts.items in
    let growths = c.self.inside.growths.items in
    let sound : IsSound u = subst IsSound c.self.view_is c.self.invariant.1 in
    let all = c.self.invariant.2 ∙ ap (λ (v : Forest Resolved). tables_of v) c.self.view_is in
    let spots = c.self.invariant.7 ∙ ap (λ (v : Forest Resolved). spots_of (times (greatest_counts v)) v 0 0) c.self.view_is in
    let grow = growing_as t u least least shifts growths c.self.view_is c.self.invariant.1 refl c.self.invariant.10 c.self.invariant.11 c.self.invariant.12 in
    lone_in u c.self.inside.tables.items least shifts growths c.self.inside.counts.spots c.in-Some.lone sound all grow spots (rw c.in-Some.is at c.self.invariant.15)

pub returns-then-asks_for-clause-read : goal.returns-then-asks_for-clause-read
returns-then-asks_for-clause-read c =
    let t = tree_of c.self.inside.root in
    let u = c.args.self.now in
    let ways = c.self.inside.ways.items in
    let shifts = c.self.inside.shifts.items in
    let least = c.self.inside.least.items in
    let r = c.args.reference.now.node in
    let subscripts = c.args.reference.now.subscripts.items in
    let own : Named ways shifts least c.deref.result.now r = named t u ways shifts least c.deref.result.now c.self.inside.footings.items r subscripts c.self.view_is c.self.invariant.1 c.requires.refers c.self.invariant.6 c.self.invariant.11 c.deref.ensures.value c.self.invariant.14 in
    let has : Has r u = refers_has r subscripts u c.requires.refers in
    reads_table u ways shifts least r c.args.receiving c.in-Some.lone.table c.footing_at-footing.result (tables_of t) (known_in t u ways (tables_of t) r c.self.invariant.1 c.self.view_is c.self.invariant.6 refl has)
    (c.footing_at-footing.ensures ∙ own.is c.footing_at-footing.result) (c.if-asks_for.ensures.behind refl) (c.if-asks_for.ensures.spares refl)

pub returns-then-asks_for-clause-unread : goal.returns-then-asks_for-clause-unread
returns-then-asks_for-clause-unread c =
    let all = c.self.invariant.2 ∙ ap (λ (v : Forest Resolved). tables_of v) c.self.view_is in
    let is : IsLoneTable c.self.inside.tables.items c.self.inside.growths.items c.self.inside.counts.spots c.in-Some.lone = rw c.in-Some.is at c.self.invariant.15 in
    unread_one c.args.self.now c.in-Some.lone.table c.args.kept.now c.requires.as_many (sym all ∙ is.only) c.if-is_none.ensures
