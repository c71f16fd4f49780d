use Rattle.std.proofs.Common.{◌+◌, min, ap, ◌∙◌, arith}
use Rattle.std.proofs.lemmas.List.{at_drop_all}
use Rattle.cob_copybook_tree.specs.declared.lengths.TheConstants.{MANY}
use Rattle.cob_copybook_tree.specs.Nodes.{forest}
use Rattle.cob_copybook_tree.specs.Lengths.{greatest_number, sum_of}
use Rattle.cob_copybook_tree.proofs.LengthLemmas.{group_length, all_elements, adds, skips}
use Rattle.cob_copybook_tree.proofs.lengths.+element_length.Goals as goal
use Rattle.cob_copybook_tree.proofs.lengths.+element_length.Goals.{then-is_none, else-is_none}

pub loop-child-preserved : goal.loop-child-preserved
loop-child-preserved t c =
    let ns = c.deref-child-items.result.now in
    let i = c.loop-child.child-index in
    let n = c.child-item.result in
    let before = c.loop-child.invariant.sum in
    elim c.if-is_none.branch [
      | then-is_none w ↦
          let part = all_elements n _ _ _ MANY w.most.ensures w.element_length.ensures w.repeated-length.ensures in
          let is = w.sum-is ∙ w.min-sum.ensures in
          record {
            sum = rw is (adds ns i n c.loop-child.sum w.repeated-length.result MANY c.loop-child-test.true c.child-item.is w.if-is_none.ensures part ∙ before);
            most = omega (arith, is);
          }
      | else-is_none w ↦
          record {
            sum = rw w.sum-is (ap (λ k. min (c.loop-child.sum + k) MANY) (skips ns i n c.loop-child-test.true c.child-item.is w.if-is_none.ensures) ∙ before);
            most = omega (arith, w.sum-is, c.loop-child.invariant.most);
          }
    ]

pub returns-after-loop-child : goal.returns-after-loop-child
returns-after-loop-child t c =
    let ns = c.deref-child-items.result.now in
    let end = at_drop_all (λ ms. sum_of greatest_number (forest ms)) ns c.loop-child.child-index c.loop-child-test.false in
    let sum = c.loop-child.invariant.sum in
    let small = c.loop-child.invariant.most in
    let group = group_length c.args.entry.now c.in-Group.is in
    let items = ap (λ ms. sum_of greatest_number (forest ms)) c.deref-child-items.ensures.value in
    omega (arith, end, sum, small, group, items)
