use Rattle.std.proofs.Common.{◌≡◌, ◌*◌, refl, ap, arith}
use Rattle.cob_copybook_tree.specs.Nodes.{node}
use Rattle.cob_copybook_tree.specs.Lengths.{greatest_number, sum_of, whole_length}
use Rattle.cob_layout_places.specs.Lengths.{times}
use Rattle.cob_layout_places.proofs.ForestLemmas.{left, below, below_possible, within_always, element_group, element_small, left_end, sum_le, next}
use Rattle.cob_layout_places.proofs.lengths.+element_of.Goals as goal

pub loop-child-init : goal.loop-child-init
loop-child-init t c =
    let small = element_small 32752 (node c.args.entry.now).top (node c.args.entry.now).beneath c.requires.possible.0 c.requires.small in
    let within = within_always c.args.counts.now (below c.args.entry.now) in
    let group = element_group greatest_number c.args.entry.now c.in-Group.is in
    record {
      sum = rw c.deref-child-items.ensures.value (omega arith);
      possible = rw c.deref-child-items.ensures.value (below_possible c.args.entry.now c.requires.possible);
      small = omega (arith, sum_le (times c.args.counts.now) (below c.args.entry.now) within, small, group);
      greatest = rw c.deref-child-items.ensures.value (omega (arith, small, group));
    }

pub overflow_mul-sum : goal.overflow_mul-sum
overflow_mul-sum t c =
    let n = next c.deref-child-items.result.now c.loop-child.child-index c.child-item.result c.loop-child-test.true c.child-item.is c.loop-child.invariant.possible in
    let k = times c.args.counts.now in
    let p : c.times_of.result * c.element_of.result ≡ whole_length k (node c.child-item.result).top (node c.child-item.result).beneath = rw (c.times_of.ensures, c.element_of.ensures) refl in
    omega (arith, p, n.adds k c.if-is_none.ensures, c.loop-child.invariant.sum, c.loop-child.invariant.small)

pub overflow_add-sum : goal.overflow_add-sum
overflow_add-sum t c =
    let n = next c.deref-child-items.result.now c.loop-child.child-index c.child-item.result c.loop-child-test.true c.child-item.is c.loop-child.invariant.possible in
    let k = times c.args.counts.now in
    let p : c.times_of.result * c.element_of.result ≡ whole_length k (node c.child-item.result).top (node c.child-item.result).beneath = rw (c.times_of.ensures, c.element_of.ensures) refl in
    omega (arith, p, n.adds k c.if-is_none.ensures, c.loop-child.invariant.sum, c.loop-child.invariant.small)

pub returns-after-loop-child : goal.returns-after-loop-child
returns-after-loop-child t c =
    let k = times c.args.counts.now in
    let end = left_end c.deref-child-items.result.now c.loop-child.child-index (omega arith) in
    let z : sum_of k (left c.deref-child-items.result.now c.loop-child.child-index) ≡ 0 = ap (sum_of k) end in
    omega (arith, c.loop-child.invariant.sum, z, element_group k c.args.entry.now c.in-Group.is)
