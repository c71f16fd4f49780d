use Rattle.std.proofs.Common.{◌≡◌, ◌∙◌, List, Some, ap, sym, subst, true, arith}
use Rattle.cob_copybook_tree.specs.Forests.{Forest}
use Rattle.cob_copybook_tree.specs.Nodes.{Resolved, tree_of}
use Rattle.cob_layout_places.specs.declared.spots.Spot.{Spot}
use Rattle.cob_layout_places.specs.Counts.{tables_of}
use Rattle.cob_layout_places.specs.Lengths.{times}
use Rattle.cob_layout_places.specs.Spots.{spots_of}
use Rattle.cob_layout.specs.Counting.{greatest_counts}
use Rattle.cob_layout.specs.Shifts.{all_shifted}
use Rattle.cob_layout.specs.Sound.{IsSound}
use Rattle.cob_layout.specs.Standing.{first_number}
use Rattle.cob_layout.proofs.FindLemmas.{first_under}
use Rattle.cob_layout.proofs.NeedLemmas.{known}
use Rattle.cob_layout.proofs.ShiftLemmas.{all_stand, can_shift, growing_as}
use Rattle.cob_layout.proofs.TakingLemmas.{early_place}
use Rattle.cob_layout.proofs.layout.Layout.place_of_count.Goals as goal

pub spot_by-spot-requires : goal.spot_by-spot-requires
spot_by-spot-requires c =
    let u = growing_as (tree_of c.self.inside.root) c.args.self.now c.deref-3.result.now c.self.inside.least.items c.deref-2.result.now c.self.inside.growths.items c.self.view_is c.self.invariant.1 c.deref-3.ensures.value c.self.invariant.10 (c.deref-2.ensures.value ∙ c.self.invariant.11) c.self.invariant.12 in
    record { by = can_shift c.args.self.now c.deref-3.result.now c.deref-2.result.now c.self.inside.growths.items c.own_sums-sums.result.now c.args.counts.now u (c.own_sums-sums.ensures ∙ c.put_sums.ensures) }

pub returns : goal.returns
returns c =
    let w = c.args.self.now in
    let sound : IsSound w = subst IsSound c.self.view_is c.self.invariant.1 in
    let u = growing_as (tree_of c.self.inside.root) w c.deref-3.result.now c.self.inside.least.items c.deref-2.result.now c.self.inside.growths.items c.self.view_is c.self.invariant.1 c.deref-3.ensures.value c.self.invariant.10 (c.deref-2.ensures.value ∙ c.self.invariant.11) c.self.invariant.12 in
    let spots : List Spot = all_shifted c.own_sums-sums.result.now c.args.counts.now 0 c.deref-2.result.now c.deref-3.result.now in
    let are : spots ≡ spots_of (times c.args.counts.now) w 0 0 = all_stand w c.deref-3.result.now c.deref-2.result.now c.self.inside.growths.items c.own_sums-sums.result.now c.args.counts.now u (c.own_sums-sums.ensures ∙ c.put_sums.ensures) in
    first_under w c.args.counts.now spots c.args.table.count sound are (known w c.args.table sound c.requires.table).has
    ∙ ap (λ (s : Spot). Some (record { offset = s.offset; length = s.length; within = true })) (sym c.spot_by-spot.ensures)

pub returns-then-table-first_number : goal.returns-then-table-first_number
returns-then-table-first_number c =
    let u = c.args.self.now in
    let tables : c.deref.result.now ≡ tables_of u = c.deref.ensures.value ∙ c.self.invariant.2 ∙ ap (λ (v : Forest Resolved). tables_of v) c.self.view_is in
    let first : c.first_number.result ≡ first_number (tables_of u) = c.first_number.ensures ∙ ap first_number tables in
    let spots : c.spots.result.now ≡ spots_of (times (greatest_counts u)) u 0 0 = c.spots.ensures ∙ c.self.invariant.7 ∙ ap (λ (v : Forest Resolved). spots_of (times (greatest_counts v)) v 0 0) c.self.view_is in
    early_place c.one_place.ensures u c.args.table c.args.counts.now (greatest_counts u) c.spots.result.now (first_number (tables_of u)) (subst IsSound c.self.view_is c.self.invariant.1) c.requires.table spots c.requires.early
    (omega (arith, first, c.if-table-first_number.true))
    ∙ ap (λ (s : Spot). Some (record { offset = s.offset; length = s.length; within = true })) (sym c.spot_at-spot.ensures)
