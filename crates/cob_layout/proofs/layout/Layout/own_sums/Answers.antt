use Rattle.std.proofs.Common.{◌≡◌, ◌+◌, ap, arith, refl, sym, take}
use Rattle.std.proofs.lemmas.List.{length-take-le}
use Rattle.cob_copybook_tree.specs.Nodes.{tree_of}
use Rattle.cob_layout.specs.Shifts.{grow_in}
use Rattle.cob_layout.proofs.ShiftLemmas.{as_many_growths, grow_few, growing_as}
use Rattle.cob_layout.proofs.layout.Layout.own_sums.Goals as goal

pub slice_bounds-result-end : goal.slice_bounds-result-end
slice_bounds-result-end c =
    let u = growing_as (tree_of c.self.inside.root) c.args.self.now c.self.inside.least.items c.self.inside.least.items c.self.inside.shifts.items c.self.inside.growths.items c.self.view_is c.self.invariant.1 refl c.self.invariant.10 c.self.invariant.11 c.self.invariant.12 in
    let many : c.len.result ≡ grow_in c.args.self.now = omega (arith, c.len.ensures, c.self.inside.growths.ok.0, as_many_growths c.args.self.now c.self.inside.least.items c.self.inside.shifts.items c.self.inside.growths.items u) in
    sym (length-take-le (c.len.result + 1) c.args.sums.now (omega (arith, many, grow_few c.args.self.now, c.requires.room)))

pub returns : goal.returns
returns c =
    let u = growing_as (tree_of c.self.inside.root) c.args.self.now c.self.inside.least.items c.self.inside.least.items c.self.inside.shifts.items c.self.inside.growths.items c.self.view_is c.self.invariant.1 refl c.self.invariant.10 c.self.invariant.11 c.self.invariant.12 in
    let many : c.len.result ≡ grow_in c.args.self.now = omega (arith, c.len.ensures, c.self.inside.growths.ok.0, as_many_growths c.args.self.now c.self.inside.least.items c.self.inside.shifts.items c.self.inside.growths.items u) in
    ap (λ n. take (n + 1) c.args.sums.now) many
