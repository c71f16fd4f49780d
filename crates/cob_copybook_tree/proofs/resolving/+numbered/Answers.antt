use Rattle.std.proofs.Common.{◌+◌, sym, ap, ◌∙◌, arith}
use Rattle.std.proofs.lemmas.List.{at_drop_all}
use Rattle.cob_copybook_tree.specs.Forests.{entries_in}
use Rattle.cob_copybook_tree.specs.Branches.{forest_of}
use Rattle.cob_copybook_tree.specs.Nodes.{forest}
use Rattle.cob_copybook_tree.specs.Resolving.{resolved}
use Rattle.cob_copybook_tree.proofs.NodeLemmas.{beside, beside_none}
use Rattle.cob_copybook_tree.proofs.ResolvedLemmas.{entries_at, entries_out, next_node, last_node}
use Rattle.cob_copybook_tree.proofs.resolving.+numbered.Goals as goal

pub loop-child-preserved : goal.loop-child-preserved
loop-child-preserved t c =
    let bs = c.deref-child-items.result.now in
    let i = c.loop-child.child-index in
    let b = c.child-item.result in
    let own = c.beneath-own.result in
    let at = entries_at bs i b c.loop-child-test.true c.child-item.is in
    let next = c.in_ok-node.ensures.next in
    record {
      rows = rw (c.in_ok-push.ensures.items, next) (next_node c.args.counts.now c.loop-child.next own.usage own.sign bs i b c.loop-child.children.items c.in_ok-node.node _
          c.loop-child-test.true c.child-item.is c.loop-child.invariant.rows c.in_ok-node.ensures.value);
      next = omega (arith, c.loop-child.invariant.next, at, next);
      few = c.loop-child.invariant.few;
    }

pub returns-clause-value : goal.returns-clause-value
returns-clause-value t c =
    let bs = c.deref-child-items.result.now in
    let own = c.beneath-own.result in
    let counts = c.args.counts.now in
    let n = c.args.next.now in
    let ns = forest c.loop-child.children.items in
    let end = at_drop_all (λ ms. beside ns (resolved counts c.loop-child.next own.usage own.sign (forest_of ms))) bs c.loop-child.child-index c.loop-child-test.false in
    let beneath = sym (beside_none ns) ∙ sym end ∙ c.loop-child.invariant.rows ∙ ap (λ ms. resolved counts (n + 1) own.usage own.sign (forest_of ms)) c.deref-child-items.ensures.value in
    last_node counts n c.args.above.usage own.usage c.args.above.sign own.sign c.count_at-count.result c.args.branch.now c.loop-child.children.items c.node_of.result
    c.count_at-count.ensures c.beneath-own.ensures.usage c.beneath-own.ensures.sign c.node_of.ensures beneath

pub returns-clause-next : goal.returns-clause-next
returns-clause-next t c =
    let bs = c.deref-child-items.result.now in
    let end = at_drop_all (λ ms. entries_in (forest_of ms)) bs c.loop-child.child-index c.loop-child-test.false in
    let next = c.loop-child.invariant.next in
    let items = ap (λ ms. entries_in (forest_of ms)) c.deref-child-items.ensures.value in
    let all = entries_out c.args.branch.now in
    omega (arith, end, next, items, all)
