use Rattle.std.proofs.Common.{◌≡◌, ◌∙◌, ◌+◌, ◌*◌, ◌<◌, ℕ, List, [], ap, arith, length, refl, rules, subst, sym}
use Rattle.std.specs.Prelude.{slice_index}
use Rattle.std.proofs.lemmas.List.{get_or-take}
use Rattle.cob_copybook_tree.specs.Forests.{Forest}
use Rattle.cob_copybook_tree.specs.Nodes.{Resolved, tree_of}
use Rattle.cob_layout_places.specs.declared.spots.Spot.{Spot}
use Rattle.cob_layout_places.specs.Lengths.{times}
use Rattle.cob_layout_places.specs.Spots.{spots_of}
use Rattle.cob_layout.specs.Shifts.{grow_in, sums_of}
use Rattle.cob_layout.specs.Sound.{IsSound}
use Rattle.cob_layout.proofs.MeasuringLemmas.{Sizes, sizes}
use Rattle.cob_layout.proofs.ShiftLemmas.{as_many_growths, grow_few, growing_as}
use Rattle.cob_layout.proofs.layout.Layout.length_under.Goals as goal

pub overflow_mul-result : goal.overflow_mul-result
overflow_mul-result c =
    let u = c.args.self.now in
    let s : Sizes u c.args.counts.now c.deref.result.now = sizes u c.args.counts.now c.deref.result.now (subst IsSound c.self.view_is c.self.invariant.1) (c.deref.ensures.value ∙ c.self.invariant.10 ∙ ap (λ (v : Forest Resolved). spots_of (times []) v 0 0) c.self.view_is) in
    omega (arith, ap (λ (x : Spot). x.times * x.length) c.spot_at-record.ensures, s.first)

pub bounds-sums-len : goal.bounds-sums-len
bounds-sums-len c =
    let u = growing_as (tree_of c.self.inside.root) c.args.self.now c.self.inside.least.items c.self.inside.least.items c.self.inside.shifts.items c.self.inside.growths.items c.self.view_is c.self.invariant.1 refl c.self.invariant.10 c.self.invariant.11 c.self.invariant.12 in
    omega (arith, c.len.ensures, c.self.inside.growths.ok.0, as_many_growths c.args.self.now c.self.inside.least.items c.self.inside.shifts.items c.self.inside.growths.items u, grow_few c.args.self.now, c.requires.sums, c.put_sums.auto.sums)

pub offset_bounds-sums-len : goal.offset_bounds-sums-len
offset_bounds-sums-len c =
    let u = growing_as (tree_of c.self.inside.root) c.args.self.now c.self.inside.least.items c.self.inside.least.items c.self.inside.shifts.items c.self.inside.growths.items c.self.view_is c.self.invariant.1 refl c.self.invariant.10 c.self.invariant.11 c.self.invariant.12 in
    let lt : c.len.result < length c.put_sums.new.sums = omega (arith, c.len.ensures, c.self.inside.growths.ok.0, as_many_growths c.args.self.now c.self.inside.least.items c.self.inside.shifts.items c.self.inside.growths.items u, grow_few c.args.self.now, c.requires.sums, c.put_sums.auto.sums) in
    search rules

pub overflow_add-result : goal.overflow_add-result
overflow_add-result c =
    let u = c.args.self.now in
    let s : Sizes u c.args.counts.now c.deref.result.now = sizes u c.args.counts.now c.deref.result.now (subst IsSound c.self.view_is c.self.invariant.1) (c.deref.ensures.value ∙ c.self.invariant.10 ∙ ap (λ (v : Forest Resolved). spots_of (times []) v 0 0) c.self.view_is) in
    let g = growing_as (tree_of c.self.inside.root) u c.self.inside.least.items c.self.inside.least.items c.self.inside.shifts.items c.self.inside.growths.items c.self.view_is c.self.invariant.1 refl c.self.invariant.10 c.self.invariant.11 c.self.invariant.12 in
    let many : c.len.result ≡ grow_in u = omega (arith, c.len.ensures, c.self.inside.growths.ok.0, as_many_growths u c.self.inside.least.items c.self.inside.shifts.items c.self.inside.growths.items g) in
    let last : slice_index c.put_sums.new.sums c.len.result ≡ slice_index (sums_of u c.args.counts.now) (grow_in u) =
    ap (λ (k : ℕ). slice_index c.put_sums.new.sums k) many ∙ sym (get_or-take (grow_in u + 1) c.put_sums.new.sums (grow_in u) 0 (omega arith)) ∙ ap (λ (zs : List ℕ). slice_index zs (grow_in u)) c.put_sums.ensures in
    omega (arith, ap (λ (x : Spot). x.times * x.length) c.spot_at-record.ensures, s.first, s.last, last)

pub returns : goal.returns
returns c =
    let u = c.args.self.now in
    let s : Sizes u c.args.counts.now c.deref.result.now = sizes u c.args.counts.now c.deref.result.now (subst IsSound c.self.view_is c.self.invariant.1) (c.deref.ensures.value ∙ c.self.invariant.10 ∙ ap (λ (v : Forest Resolved). spots_of (times []) v 0 0) c.self.view_is) in
    let g = growing_as (tree_of c.self.inside.root) u c.self.inside.least.items c.self.inside.least.items c.self.inside.shifts.items c.self.inside.growths.items c.self.view_is c.self.invariant.1 refl c.self.invariant.10 c.self.invariant.11 c.self.invariant.12 in
    let many : c.len.result ≡ grow_in u = omega (arith, c.len.ensures, c.self.inside.growths.ok.0, as_many_growths u c.self.inside.least.items c.self.inside.shifts.items c.self.inside.growths.items g) in
    let last : slice_index c.put_sums.new.sums c.len.result ≡ slice_index (sums_of u c.args.counts.now) (grow_in u) =
    ap (λ (k : ℕ). slice_index c.put_sums.new.sums k) many ∙ sym (get_or-take (grow_in u + 1) c.put_sums.new.sums (grow_in u) 0 (omega arith)) ∙ ap (λ (zs : List ℕ). slice_index zs (grow_in u)) c.put_sums.ensures in
    omega (arith, ap (λ (x : Spot). x.times * x.length) c.spot_at-record.ensures, s.all, last)
