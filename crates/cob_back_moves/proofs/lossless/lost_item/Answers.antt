use Rattle.std.proofs.Common.{ℕ, subst}
use Rattle.std.specs.Prelude.{IfNone, IfSome}
use Rattle.cob_copybook_tree.specs.Forests.{Forest}
use Rattle.cob_copybook_tree.specs.Nodes.{Resolved}
use Rattle.cob_back_moves.specs.Brought.{AllReturned, IsLostItem, singles_in}
use Rattle.cob_back_moves.proofs.lossless.lost_item.Goals as goal

pub returns-clause-fine : goal.returns-clause-fine
returns-clause-fine c =
    subst (λ (t : Forest Resolved). IfNone c.first_lost.result (AllReturned t (singles_in c.args.there.now) (singles_in c.args.back.now))) c.root.ensures.tree c.first_lost.ensures.fine

pub returns-clause-lost : goal.returns-clause-lost
returns-clause-lost c =
    subst (λ (t : Forest Resolved). IfSome c.first_lost.result (λ (r : ℕ). IsLostItem t (singles_in c.args.there.now) (singles_in c.args.back.now) r)) c.root.ensures.tree c.first_lost.ensures.lost
