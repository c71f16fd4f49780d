use Rattle.std.proofs.Common.{arith}
use Rattle.cob_copybook_tree.specs.Nodes.{node}
use Rattle.cob_back_losses.proofs.ByteLemmas.{element_long}
use Rattle.cob_back_losses.proofs.lost.are_marked.Goals as goal

pub returns : goal.returns
returns c = λ marked at lt. c.loop-at.invariant at
    (omega (arith, lt, element_long (node c.args.entry.now), c.element_length-count.ensures, c.if-count-eq-MANY.false, c.loop-at-test.false, c.loop-at.auto.at-end))
