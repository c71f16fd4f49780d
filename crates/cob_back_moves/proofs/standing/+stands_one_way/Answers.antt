use Rattle.std.proofs.Common.{List, refl, subst, sym, rules}
use Rattle.cob_copybook_tree.specs.declared.node.Node.{Node}
use Rattle.cob_copybook_tree.specs.declared.node.Node.TheViews.{out-Node}
use Rattle.cob_copybook_tree.specs.Nodes.{forest, tree_of}
use Rattle.cob_back_moves.specs.Apart.{StandsOneWay}
use Rattle.cob_back_moves.proofs.LeftLemmas.{Both, never}
use Rattle.cob_back_moves.proofs.StandingLemmas.{begins, next_does_not, next_stands, none_left, redefines_another, varies}
use Rattle.cob_back_moves.proofs.standing.+stands_one_way.Goals as goal

pub returns-then-is_some : goal.returns-then-is_some
returns-then-is_some t c = never (StandsOneWay (tree_of c.args.entry.now)) (redefines_another c.args.entry.now (search rules))

pub returns-then-not-is_steady : goal.returns-then-not-is_steady
returns-then-not-is_steady t c = never (StandsOneWay (tree_of c.args.entry.now)) (varies c.args.entry.now c.is_steady.result (search rules) (c.is_steady.ensures (out-Node c.args.entry.now).number))

pub loop-child-init : goal.loop-child-init
loop-child-init t c =
    let n = c.args.entry.now in
    subst (λ (ns : List Node). Both (StandsOneWay (forest ns)) (StandsOneWay (tree_of n))) (sym c.deref-child-items.ensures.value)
    (begins n c.is_steady.result (search rules) (search rules) (c.is_steady.ensures (out-Node n).number))

pub returns-then-not-stands_one_way : goal.returns-then-not-stands_one_way
returns-then-not-stands_one_way t c =
    never (StandsOneWay (tree_of c.args.entry.now))
    (next_does_not c.deref-child-items.result.now c.loop-child.child-index c.child-item.result c.stands_one_way.result (StandsOneWay (tree_of c.args.entry.now))
    c.loop-child-test.true c.child-item.is (search rules) c.stands_one_way.ensures c.loop-child.invariant)

pub loop-child-preserved : goal.loop-child-preserved
loop-child-preserved t c =
    next_stands c.deref-child-items.result.now c.loop-child.child-index c.child-item.result c.stands_one_way.result (StandsOneWay (tree_of c.args.entry.now))
    c.loop-child-test.true c.child-item.is (search rules) c.stands_one_way.ensures c.loop-child.invariant

pub returns : goal.returns
returns t c =
    let all = none_left c.deref-child-items.result.now c.loop-child.child-index (StandsOneWay (tree_of c.args.entry.now)) c.loop-child-test.false c.loop-child.invariant in
    (λ is. all, λ h. refl)
