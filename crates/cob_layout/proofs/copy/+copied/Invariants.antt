use Rattle.std.proofs.Common.{◌≡◌, ◌++◌, drop, map}
use Rattle.cob_copybook_tree.specs.Nodes.{node, forest}
use Rattle.cob_copybook.specs.Bytes.{TakeBytes}
use Rattle.cob_layout.proofs.copy.+copied.Given as goal

abbrev pub decreases-copied : goal.decreases-copied
decreases-copied l = goal.size-copied l

abbrev pub invariant-loop-child : goal.invariant-loop-child
invariant-loop-child l =
    (map node l.children.items ++ map node (drop l.child-index l.child-items) ≡ map node l.child-items) × TakeBytes (forest l.children.items)
