use Rattle.std.proofs.Common.{◌≡◌, ◌∙◌, ◌≤◌, List, [], ap, subst, sym, ℕ}
use Rattle.cob_copybook_tree.specs.Forests.{Forest}
use Rattle.cob_copybook_tree.specs.Nodes.{Resolved, tree_of}
use Rattle.cob_layout_places.specs.declared.spots.Spot.{Spot}
use Rattle.cob_layout_places.specs.Lengths.{times}
use Rattle.cob_layout_places.specs.Spots.{spots_of}
use Rattle.cob_layout.specs.Ways.{spot_at}
use Rattle.cob_layout.proofs.LeastLemmas.{begins_behind}
use Rattle.cob_layout.proofs.ShiftLemmas.{growing_as}
use Rattle.cob_layout.proofs.layout.Layout.least_offset.Goals as goal

pub returns-clause-value : goal.returns-clause-value
returns-clause-value c =
    ap (λ (s : Spot). s.offset) c.spot_at.ensures
    ∙ ap (λ (ss : List Spot). (spot_at ss c.args.number).offset) (c.deref.ensures.value ∙ c.self.invariant.10 ∙ ap (λ (v : Forest Resolved). spots_of (times []) v 0 0) c.self.view_is)

pub returns-clause-least : goal.returns-clause-least
returns-clause-least c = λ counts subscripts f refers at.
    let t = tree_of c.self.inside.root in
    let least = c.deref.result.now in
    let growing = growing_as t c.args.self.now least c.self.inside.least.items c.self.inside.shifts.items c.self.inside.growths.items c.self.view_is c.self.invariant.1 c.deref.ensures.value c.self.invariant.10 c.self.invariant.11 c.self.invariant.12 in
    let so : (spot_at least c.args.number).offset ≤ f.offset =
    begins_behind t c.args.self.now c.self.inside.ways.items least c.self.inside.shifts.items c.self.inside.growths.items counts c.args.number subscripts f c.self.invariant.1 c.self.view_is c.self.invariant.6 growing refers at in
    subst (λ (n : ℕ). n ≤ f.offset) (sym (ap (λ (s : Spot). s.offset) c.spot_at.ensures)) so
