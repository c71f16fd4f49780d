use Rattle.std.proofs.Common.{subst}
use Rattle.std.specs.Bool.{Decides}
use Rattle.cob_copybook_tree.specs.Forests.{Forest}
use Rattle.cob_copybook_tree.specs.Nodes.{Resolved}
use Rattle.cob_back_moves.specs.Brought.{singles_in}
use Rattle.cob_back_moves.specs.Losses.{AreAllNamed}
use Rattle.cob_back_moves.proofs.lossless.are_all_named.Goals as goal

pub returns : goal.returns
returns c = subst (λ (t : Forest Resolved). Decides c.are_named.result (AreAllNamed t (singles_in c.args.back.now))) c.root.ensures.tree c.are_named.ensures
