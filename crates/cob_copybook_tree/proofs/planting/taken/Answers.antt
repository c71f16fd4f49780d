use Rattle.std.proofs.Common.{◌≡◌, List, [], ◌∷◌, ◌++◌, ap, sym, ◌∙◌, append_assoc}
use Rattle.cob_copybook_tree.specs.declared.branch.Branch.{Branch}
use Rattle.cob_copybook_tree.proofs.BranchLemmas.{deeper_push}
use Rattle.cob_copybook_tree.proofs.planting.taken.Goals as goal

moved : (xs ys zs : List Branch) (b : Branch) (all : List Branch) → all ≡ xs ++ ys → ys ≡ b ∷ zs → all ≡ (xs ++ b ∷ []) ++ zs
moved xs ys zs b all e f = e ∙ ap (λ t. xs ++ t) f ∙ sym (append_assoc xs (b ∷ []) zs)

pub loop-child-preserved : goal.loop-child-preserved
loop-child-preserved c =
    let first = c.in-Some.ensures.first in
    record {
      parts = rw c.in_ok-push.ensures.items (moved _ _ _ _ _ c.loop-child.invariant.parts first.0);
      deeper = rw c.in_ok-push.ensures.items (deeper_push _ _ _ c.loop-child.invariant.deeper first.1);
    }
