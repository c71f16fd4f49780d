use Rattle.std.proofs.Common.{◌∙◌, ◌+◌, ap, arith, refl, sym, take}
use Rattle.cob_copybook_tree.specs.Nodes.{tree_of}
use Rattle.cob_layout.proofs.ShiftLemmas.{as_many_growths, can_sum, grow_few, growing_as, own_sums}
use Rattle.cob_layout.proofs.layout.Layout.put_sums.Goals as goal

pub put_sums-requires-clause-room : goal.put_sums-requires-clause-room
put_sums-requires-clause-room c =
    let u = growing_as (tree_of c.self.inside.root) c.args.self.now c.self.inside.least.items c.self.inside.least.items c.self.inside.shifts.items c.deref.result.now c.self.view_is c.self.invariant.1 refl c.self.invariant.10 c.self.invariant.11 (c.deref.ensures.value ∙ c.self.invariant.12) in
    omega (arith, as_many_growths c.args.self.now c.self.inside.least.items c.self.inside.shifts.items c.deref.result.now u, grow_few c.args.self.now, c.requires.room)

pub put_sums-requires-clause-fit : goal.put_sums-requires-clause-fit
put_sums-requires-clause-fit c =
    let u = growing_as (tree_of c.self.inside.root) c.args.self.now c.self.inside.least.items c.self.inside.least.items c.self.inside.shifts.items c.deref.result.now c.self.view_is c.self.invariant.1 refl c.self.invariant.10 c.self.invariant.11 (c.deref.ensures.value ∙ c.self.invariant.12) in
    can_sum c.args.self.now c.self.inside.least.items c.self.inside.shifts.items c.deref.result.now c.args.counts.now u

pub returns : goal.returns
returns c =
    let u = growing_as (tree_of c.self.inside.root) c.args.self.now c.self.inside.least.items c.self.inside.least.items c.self.inside.shifts.items c.deref.result.now c.self.view_is c.self.invariant.1 refl c.self.invariant.10 c.self.invariant.11 (c.deref.ensures.value ∙ c.self.invariant.12) in
    let many = as_many_growths c.args.self.now c.self.inside.least.items c.self.inside.shifts.items c.deref.result.now u in
    ap (λ n. take (n + 1) c.put_sums.new.sums) (sym many) ∙ c.put_sums.ensures ∙ own_sums c.args.self.now c.self.inside.least.items c.self.inside.shifts.items c.deref.result.now c.args.counts.now u
