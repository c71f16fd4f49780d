use Rattle.std.proofs.Common.{◌+◌, ◌++◌, ◌∙◌, ℕ, List, length, map, sym, ap, arith, append-nil, append_assoc}
use Rattle.cob_copybook_tree.specs.Forests.{Forest}
use Rattle.cob_copybook_tree.specs.Nodes.{Resolved, tree_of}
use Rattle.cob_layout_places.proofs.ForestLemmas.{left, left_end}
use Rattle.cob_layout.specs.Ways.{Held, held, held_in}
use Rattle.cob_layout.proofs.WaySteps.{nested_next, up_to_next, ways_next}
use Rattle.cob_layout.proofs.ways.+push_ways.Goals as goal

pub loop-child-preserved : goal.loop-child-preserved
loop-child-preserved t c =
    let children = c.deref-child-items.result.now in
    let k = c.loop-child.child-index in
    let n = c.child-item.result in
    let within = c.with_own-within.result.items in
    let made = c.loop-child.ways.items in
    let inv = c.loop-child.invariant in
    record {
      at = omega (arith, inv.at);
      numbered = up_to_next c.args.end children k n c.loop-child-test.true c.child-item.is inv.numbered;
      nested = nested_next (length within) children k n c.loop-child-test.true c.child-item.is inv.nested;
      same = ap (λ (hs : List Held). hs ++ held_in within (left children (k + 1))) (c.in_ok-push_ways.ensures ∙ ap (λ (over : List ℕ). map held made ++ held_in over (tree_of n)) c.as_slice.ensures.value)
          ∙ append_assoc (map held made) (held_in within (tree_of n)) (held_in within (left children (k + 1)))
          ∙ ap (λ (hs : List Held). map held made ++ hs) (ways_next within children k n c.loop-child-test.true c.child-item.is)
          ∙ inv.same;
    }

pub returns : goal.returns
returns t c =
    let none = left_end c.deref-child-items.result.now c.loop-child.child-index c.loop-child-test.false in
    sym (append-nil (map held c.loop-child.ways.items)) ∙ ap (λ (f : Forest Resolved). map held c.loop-child.ways.items ++ held_in c.with_own-within.result.items f) (sym none) ∙ c.loop-child.invariant.same
