-- The tree that entries stand for.
use Rattle.std.proofs.Common.{◌≡◌, ℕ, ◌<◌, List, [], ◌∷◌, ◌++◌, length, length-append, refl, sym, ap, subst, ◌∙◌, arith, append_assoc}
use Rattle.std.specs.List.{AllByRecursion}
use Rattle.std.proofs.lemmas.List.{append-nil}
use Rattle.cob_copybook_entry.specs.Described.{PlainEntry}
use Rattle.cob_copybook_tree.specs.Forests.{Forest, NoEntries, AnEntry, flat, entries_in, IsTree, AreDeeper}
use Rattle.cob_copybook_tree.specs.Branches.{level_of, IsBelow, AreLevels, StandsFor}
use Rattle.cob_copybook_tree.proofs.Unique.{one_root, same_forest}

deeper_all : (ds : List PlainEntry) (l : ℕ) → l ≡ 1 → AllByRecursion IsBelow ds → AllByRecursion (λ (d : PlainEntry). l < d.level) ds
deeper_all [] l is all = tt
deeper_all (d ∷ ds) l is all = let h = all.0.0 in (omega (arith, h, is), deeper_all ds l is all.1)

pub stands_for : (ds : List PlainEntry) (a : PlainEntry) (children more : Forest PlainEntry) → AreLevels ds → flat (AnEntry a children more) ≡ ds → IsTree level_of (AnEntry a children more) → StandsFor ds (AnEntry a children NoEntries)
stands_for [] a children more levels e tree = absurd levels
stands_for (b ∷ ds) a children more levels e tree =
    let (below, one) = one_root (AnEntry a children more) b ds tree (deeper_all ds b.level levels.0 levels.1) e in
    let two : AnEntry a children more ≡ AnEntry b below NoEntries = one in
    let none : more ≡ NoEntries = cc in
    record {
      levels = levels;
      entries = ap (λ m. flat (AnEntry a children m)) (sym none) ∙ e;
      tree = (tree.0, tree.1, tt, tt);
    }

-- each entry of the first row stands in the list
deeper_flat : (f : Forest PlainEntry) (s t : List PlainEntry) → AllByRecursion (λ (d : PlainEntry). 0 < d.level) (s ++ (flat f ++ t)) → AreDeeper level_of 0 f
deeper_flat NoEntries s t all = tt
deeper_flat (AnEntry a children more) [] t all = (all.0, deeper_flat more (flat children) t (subst (λ l. AllByRecursion (λ (d : PlainEntry). 0 < d.level) l) (append_assoc (flat children) (flat more) t) all.1))
deeper_flat (AnEntry a children more) (b ∷ s) t all = deeper_flat (AnEntry a children more) s t all.1

positive : (ds : List PlainEntry) → AllByRecursion IsBelow ds → AllByRecursion (λ (d : PlainEntry). 0 < d.level) ds
positive [] all = tt
positive (d ∷ ds) all = let h = all.0.0 in (omega (arith, h), positive ds all.1)

positive_levels : (ds : List PlainEntry) → AreLevels ds → AllByRecursion (λ (d : PlainEntry). 0 < d.level) ds
positive_levels [] levels = absurd levels
positive_levels (d ∷ ds) levels = let h = levels.0 in (omega (arith, h), positive ds levels.1)

above : (ds : List PlainEntry) (t : Forest PlainEntry) → StandsFor ds t → AreDeeper level_of 0 t
above ds t is = deeper_flat t [] [] (subst (λ l. AllByRecursion (λ (d : PlainEntry). 0 < d.level) l) (sym is.entries ∙ sym (append-nil (flat t))) (positive_levels ds is.levels))

-- entries stand for one tree
pub one_tree_of : (ds : List PlainEntry) (t u : Forest PlainEntry) → StandsFor ds t → StandsFor ds u → t ≡ u
one_tree_of ds t u is us = (same_forest 0 t u [] [] (above ds t is) (above ds u us) is.tree us.tree tt tt (append-nil (flat t) ∙ is.entries ∙ sym us.entries ∙ sym (append-nil (flat u)))).0

-- a tree has as many entries as their list is long
pub as_many_of : (t : Forest PlainEntry) → entries_in t ≡ length (flat t)
as_many_of NoEntries = refl
as_many_of (AnEntry e children more) =
    let k = as_many_of children in
    let m = as_many_of more in
    omega (arith, k, m, length-append (flat children) (flat more))
