use Rattle.std.proofs.Common.{subst, ap, ◌∙◌, length}
use Rattle.cob_copybook_tree.specs.Nodes.{tree_of}
use Rattle.cob_layout_places.specs.Counts.{tables_of}
use Rattle.cob_layout.specs.Counting.{AreGreatest}
use Rattle.cob_layout.specs.Standing.{are_unkept, IsRoomFor}
use Rattle.cob_layout.proofs.GreatestLemmas.{are_greatest}
use Rattle.cob_layout.proofs.RecordLemmas.{new_places}
use Rattle.cob_layout.proofs.RefreshLemmas.{unkept}
use Rattle.cob_layout.proofs.layout.Layout.greatest_counts.Goals as goal

pub returns-clause-greatest : goal.returns-clause-greatest
returns-clause-greatest c =
    subst (λ t. AreGreatest t c.self.inside.counts.counts) c.self.view_is
    (are_greatest (tree_of c.self.inside.root) c.self.inside.counts.counts c.self.invariant.1.numbered c.self.invariant.3)

pub returns-clause-places : goal.returns-clause-places
returns-clause-places c = new_places (tree_of c.self.inside.root) c.args.self.now c.self.inside.counts c.self.view_is c.self.invariant.3 c.self.invariant.7

pub returns-clause-room : goal.returns-clause-room
returns-clause-room c = subst (λ t. IsRoomFor t c.self.inside.counts) c.self.view_is c.self.invariant.13

pub returns-clause-none : goal.returns-clause-none
returns-clause-none c = ap are_unkept c.self.invariant.9 ∙ unkept (length (tables_of (tree_of c.self.inside.root)))
