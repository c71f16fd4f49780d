-- The forest of a list of branches.
use Rattle.std.proofs.Common.{◌≡◌, ℕ, zero, suc, ◌+◌, ◌<◌, ◌≤◌, Bool, ◌||◌, is_some, List, [], ◌∷◌, ◌++◌, length, drop, get_or, sym, ap, ◌∙◌, append_assoc, arith}
use Rattle.std.proofs.lemmas.List.{at_drop_more}
use Rattle.cob_copybook_entry.specs.Described.{PlainEntry, plain_entry}
use Rattle.cob_copybook_tree.specs.declared.branch.Branch.{Branch}
use Rattle.cob_copybook_tree.specs.declared.branch.Branch.TheViews.{out-Branch}
use Rattle.cob_copybook_tree.specs.declared.branch.Branch.TheFolds.{fold_out-Branch}
use Rattle.cob_copybook_tree.specs.Forests.{Forest, Tree, AnEntry, entries_in}
use Rattle.cob_copybook_tree.specs.Branches.{branch, branch_step, forest_of}
use Rattle.cob_copybook_names.specs.Naming.{Bearer, with_name}
use Rattle.cob_copybook_names.specs.Entries.{NumberedEntry, bearer_at, bearers}

pub branch_out : (b : Branch) → branch b ≡ record { top = plain_entry (out-Branch b).entry; beneath = forest_of (out-Branch b).children.items }
branch_out b = fold_out-Branch (Tree PlainEntry) branch_step b

-- the forest of the branches from a place on
pub forest_at : (bs : List Branch) (i : ℕ) (b : Branch) → i < length bs → b ≡ get_or bs i b
    → forest_of (drop i bs) ≡ AnEntry (plain_entry (out-Branch b).entry) (forest_of (out-Branch b).children.items) (forest_of (drop (i + 1) bs))
forest_at bs i b lt is = at_drop_more forest_of bs i b lt ∙ ap (λ (t : Tree PlainEntry). AnEntry t.top t.beneath (forest_of (drop (i + 1) bs))) (ap branch (sym is) ∙ branch_out b)

-- the branches from a place on have no more entries than all
pub fewer_left : (bs : List Branch) (i : ℕ) → entries_in (forest_of (drop i bs)) ≤ entries_in (forest_of bs)
fewer_left bs zero = omega arith
fewer_left [] (suc i) = omega arith
fewer_left (b ∷ bs) (suc i) = let left = fewer_left bs i in omega (arith, left)

-- an item and those beneath it go from what is left to what is done
pub regroup : {A : Type 0} (all m m1 m2 k r : List A) (b : A) → all ≡ m ++ (b ∷ (k ++ r)) → m1 ≡ m ++ b ∷ [] → m2 ≡ m1 ++ k → all ≡ m2 ++ r
regroup all m m1 m2 k r b e f g = e ∙ sym (append_assoc m (b ∷ k) r) ∙ ap (λ t. t ++ r) (sym (append_assoc m (b ∷ []) k)) ∙ ap (λ t. (t ++ k) ++ r) (sym f) ∙ ap (λ t. t ++ r) (sym g)

-- a listed branch and those beneath it go from what is left to what is done
pub step_names : (all m m1 m2 : List (Bearer NumberedEntry)) (above beneath : List (List ℕ)) (tab inside : Bool) (n n1 n2 : ℕ) (d : PlainEntry) (children more : Forest PlainEntry)
    → all ≡ m ++ bearers above tab n (AnEntry d children more)
    → beneath ≡ with_name d.name above → inside ≡ (tab || is_some d.occurs) → n1 ≡ n + 1 → n2 ≡ n1 + entries_in children
    → m1 ≡ m ++ bearer_at above inside n d ∷ [] → m2 ≡ m1 ++ bearers beneath inside n1 children
    → all ≡ m2 ++ bearers above tab n2 more
step_names all m m1 m2 above beneath tab inside n n1 n2 d children more e eb ei e1 e2 f g =
    regroup all m m1 m2 (bearers beneath inside n1 children) (bearers above tab n2 more) (bearer_at above inside n d) (rw (eb, ei, e2, e1) e) f g
