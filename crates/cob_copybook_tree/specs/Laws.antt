-- Laws of trees.
use Rattle.std.specs.Prelude.{◌≡◌, List, length}
use Rattle.cob_copybook_entry.specs.Described.{PlainEntry, plain_entry}
use Rattle.cob_copybook_tree.specs.declared.branch.Branch.{Branch}
use Rattle.cob_copybook_tree.specs.declared.branch.Branch.TheViews.{out-Branch}
use Rattle.cob_copybook_tree.specs.declared.node.Node.{Node}
use Rattle.cob_copybook_tree.specs.declared.node.Node.TheViews.{out-Node}
use Rattle.cob_copybook_tree.specs.Forests.{Forest, flat, entries_in}
use Rattle.cob_copybook_tree.specs.Branches.{branch, forest_of, StandsFor}
use Rattle.cob_copybook_tree.specs.Nodes.{node, forest, resolved_entry}

-- entries stand for one tree at most
abbrev pub OneTree : Type 0
OneTree = (ds : List PlainEntry) (t u : Forest PlainEntry) → StandsFor ds t → StandsFor ds u → t ≡ u

-- a branch is its entry with its children side by side
abbrev pub BranchOpens : Type 0
BranchOpens = (b : Branch) → branch b ≡ record { top = plain_entry (out-Branch b).entry; beneath = forest_of (out-Branch b).children.items }

-- a node is its entry by itself with its children side by side
abbrev pub NodeOpens : Type 0
NodeOpens = (n : Node) → node n ≡ record { top = resolved_entry (out-Node n); beneath = forest (out-Node n).children.items }

-- a tree has as many entries as their list is long
abbrev pub AsManyEntries : Type 0
AsManyEntries = (t : Forest PlainEntry) → entries_in t ≡ length (flat t)
