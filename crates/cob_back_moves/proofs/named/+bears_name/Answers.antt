use Rattle.std.proofs.Common.{List, refl, subst, sym, rules}
use Rattle.cob_copybook_tree.specs.declared.node.Node.{Node}
use Rattle.cob_copybook_tree.specs.Nodes.{forest, tree_of}
use Rattle.cob_back_moves.specs.Returns.{BearsName}
use Rattle.cob_back_moves.proofs.LeftLemmas.{Both, never}
use Rattle.cob_back_moves.proofs.NamedLemmas.{bears_below, bears_itself, next_bears, next_does_not, none_left}
use Rattle.cob_back_moves.proofs.named.+bears_name.Goals as goal

pub returns-then-bears_itself : goal.returns-then-bears_itself
returns-then-bears_itself t c =
    let n = c.args.entry.now in
    (λ is. bears_itself c.args.number n (c.bears_itself.ensures.0 (search rules)), λ h. refl)

pub loop-child-init : goal.loop-child-init
loop-child-init t c =
    let n = c.args.entry.now in
    subst (λ (ns : List Node). Both (BearsName c.args.number (forest ns)) (BearsName c.args.number (tree_of n))) (sym c.deref-child-items.ensures.value)
    (bears_below c.args.number n c.bears_itself.result (search rules) c.bears_itself.ensures)

pub returns-then-bears_name : goal.returns-then-bears_name
returns-then-bears_name t c =
    let n = c.args.entry.now in
    let found = next_bears c.args.number c.deref-child-items.result.now c.loop-child.child-index c.child-item.result c.bears_name.result (BearsName c.args.number (tree_of n))
    c.loop-child-test.true c.child-item.is (search rules) c.bears_name.ensures c.loop-child.invariant in
    (λ is. found, λ h. refl)

pub loop-child-preserved : goal.loop-child-preserved
loop-child-preserved t c =
    next_does_not c.args.number c.deref-child-items.result.now c.loop-child.child-index c.child-item.result c.bears_name.result (BearsName c.args.number (tree_of c.args.entry.now))
    c.loop-child-test.true c.child-item.is (search rules) c.bears_name.ensures c.loop-child.invariant

pub returns : goal.returns
returns t c =
    never (BearsName c.args.number (tree_of c.args.entry.now))
    (none_left c.args.number c.deref-child-items.result.now c.loop-child.child-index (BearsName c.args.number (tree_of c.args.entry.now)) c.loop-child-test.false c.loop-child.invariant)
