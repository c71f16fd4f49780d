use Rattle.std.proofs.Common.{◌∙◌, sym}
use Rattle.cob_copybook_tree.specs.Nodes.{tree_of}
use Rattle.cob_layout.proofs.ShiftLemmas.{all_stand, as_many_shifts, can_shift, growing_as}
use Rattle.cob_layout.proofs.layout.Layout.put_spots.Goals as goal

pub put_shifted-requires-clause-by : goal.put_shifted-requires-clause-by
put_shifted-requires-clause-by c =
    let u = growing_as (tree_of c.self.inside.root) c.args.self.now c.deref-2.result.now c.self.inside.least.items c.deref.result.now c.self.inside.growths.items c.self.view_is c.self.invariant.1 c.deref-2.ensures.value c.self.invariant.10 (c.deref.ensures.value ∙ c.self.invariant.11) c.self.invariant.12 in
    can_shift c.args.self.now c.deref-2.result.now c.deref.result.now c.self.inside.growths.items c.own_sums-sums.result.now c.args.counts.now u (c.own_sums-sums.ensures ∙ c.put_sums.ensures)

pub put_shifted-requires-clause-counts : goal.put_shifted-requires-clause-counts
put_shifted-requires-clause-counts c =
    let u = growing_as (tree_of c.self.inside.root) c.args.self.now c.deref-2.result.now c.self.inside.least.items c.deref.result.now c.self.inside.growths.items c.self.view_is c.self.invariant.1 c.deref-2.ensures.value c.self.invariant.10 (c.deref.ensures.value ∙ c.self.invariant.11) c.self.invariant.12 in
    c.requires.counts ∙ sym (as_many_shifts c.args.self.now c.deref-2.result.now c.deref.result.now c.self.inside.growths.items u)

pub put_shifted-requires-clause-room : goal.put_shifted-requires-clause-room
put_shifted-requires-clause-room c =
    let u = growing_as (tree_of c.self.inside.root) c.args.self.now c.deref-2.result.now c.self.inside.least.items c.deref.result.now c.self.inside.growths.items c.self.view_is c.self.invariant.1 c.deref-2.ensures.value c.self.invariant.10 (c.deref.ensures.value ∙ c.self.invariant.11) c.self.invariant.12 in
    c.requires.room ∙ sym (as_many_shifts c.args.self.now c.deref-2.result.now c.deref.result.now c.self.inside.growths.items u)

pub returns : goal.returns
returns c =
    let u = growing_as (tree_of c.self.inside.root) c.args.self.now c.deref-2.result.now c.self.inside.least.items c.deref.result.now c.self.inside.growths.items c.self.view_is c.self.invariant.1 c.deref-2.ensures.value c.self.invariant.10 (c.deref.ensures.value ∙ c.self.invariant.11) c.self.invariant.12 in
    c.put_shifted.ensures ∙ all_stand c.args.self.now c.deref-2.result.now c.deref.result.now c.self.inside.growths.items c.own_sums-sums.result.now c.args.counts.now u (c.own_sums-sums.ensures ∙ c.put_sums.ensures)
