use Rattle.std.proofs.Common.{◌∙◌, ap, refl, subst, sym}
use Rattle.cob_copybook_tree.specs.Forests.{Forest}
use Rattle.cob_copybook_tree.specs.Nodes.{Resolved, tree_of}
use Rattle.cob_layout_places.specs.Counts.{tables_of}
use Rattle.cob_layout_places.specs.Lengths.{times}
use Rattle.cob_layout_places.specs.Spots.{spots_of}
use Rattle.cob_layout.specs.Counting.{greatest_counts}
use Rattle.cob_layout.specs.Lone.{IsLoneTable}
use Rattle.cob_layout.specs.Sound.{IsSound}
use Rattle.cob_layout.proofs.LoneLemmas.{unread_one}
use Rattle.cob_layout.proofs.LoneSumLemmas.{lone_in}
use Rattle.cob_layout.proofs.ShiftLemmas.{growing_as}
use Rattle.cob_layout.proofs.layout.Layout.lone_not_kept.Goals as goal

pub returns-in-Some-clause-lone : goal.returns-in-Some-clause-lone
returns-in-Some-clause-lone c =
    let t = tree_of c.self.inside.root in
    let u = c.args.self.now in
    let least = c.self.inside.least.items in
    let shifts = c.self.inside.shifts.items in
    let growths = c.self.inside.growths.items in
    let sound : IsSound u = subst IsSound c.self.view_is c.self.invariant.1 in
    let all = c.self.invariant.2 ∙ ap (λ (v : Forest Resolved). tables_of v) c.self.view_is in
    let spots = c.self.invariant.7 ∙ ap (λ (v : Forest Resolved). spots_of (times (greatest_counts v)) v 0 0) c.self.view_is in
    let grow = growing_as t u least least shifts growths c.self.view_is c.self.invariant.1 refl c.self.invariant.10 c.self.invariant.11 c.self.invariant.12 in
    lone_in u c.self.inside.tables.items least shifts growths c.self.inside.counts.spots c.in-Some.lone sound all grow spots (rw c.in-Some.is at c.self.invariant.15)

pub returns-in-Some-clause-unread : goal.returns-in-Some-clause-unread
returns-in-Some-clause-unread c =
    let all = c.self.invariant.2 ∙ ap (λ (v : Forest Resolved). tables_of v) c.self.view_is in
    let is : IsLoneTable c.self.inside.tables.items c.self.inside.growths.items c.self.inside.counts.spots c.in-Some.lone = rw c.in-Some.is at c.self.invariant.15 in
    unread_one c.args.self.now c.in-Some.lone.table c.args.kept.now c.requires.as_many (sym all ∙ is.only) c.if-is_none.ensures
