-- A list of entries has at most one tree.
use Rattle.std.proofs.Common.{◌≡◌, ℕ, ◌<◌, ◌≤◌, List, [], ◌∷◌, ◌++◌, refl, sym, subst, ◌∙◌, append_assoc, arith}
use Rattle.std.specs.List.{AllByRecursion}
use Rattle.cob_copybook_entry.specs.Described.{PlainEntry}
use Rattle.cob_copybook_tree.specs.Forests.{Forest, NoEntries, AnEntry, flat, IsTree, AreDeeper, NotDeeper}
use Rattle.cob_copybook_tree.specs.Branches.{level_of}

-- the first entry isn't deeper
abbrev FirstNotDeeper : ℕ → List PlainEntry → Type 0
FirstNotDeeper l [] = Unit {0}
FirstNotDeeper l (e ∷ es) = e.level ≤ l

first_behind : (l k : ℕ) (more : Forest PlainEntry) (s : List PlainEntry) → l < k → NotDeeper level_of k more → FirstNotDeeper l s → FirstNotDeeper k (flat more ++ s)
first_behind l k NoEntries [] lt h f = tt
first_behind l k NoEntries (e ∷ es) lt h f = omega (arith, f, lt)
first_behind l k (AnEntry e children more) s lt h f = h

-- trees deeper than a level, before entries that aren't, are told by the entries of both
pub same_forest : (l : ℕ) (x y : Forest PlainEntry) (s t : List PlainEntry) → AreDeeper level_of l x → AreDeeper level_of l y → IsTree level_of x → IsTree level_of y
    → FirstNotDeeper l s → FirstNotDeeper l t → flat x ++ s ≡ flat y ++ t → (x ≡ y) × (s ≡ t)
same_forest l NoEntries NoEntries s t dx dy tx ty fs ft e = (refl, e)
same_forest l NoEntries (AnEntry a children more) [] t dx dy tx ty fs ft e = absurd cc
same_forest l NoEntries (AnEntry a children more) (b ∷ s) t dx dy tx ty fs ft e =
    let same : b ≡ a = cc in
    let lt = subst (λ (x : PlainEntry). x.level ≤ l) same fs in
    absurd (omega (arith, lt, dy.0))
same_forest l (AnEntry a children more) NoEntries s [] dx dy tx ty fs ft e = absurd cc
same_forest l (AnEntry a children more) NoEntries s (b ∷ t) dx dy tx ty fs ft e =
    let same : b ≡ a = cc in
    let lt = subst (λ (x : PlainEntry). x.level ≤ l) same ft in
    absurd (omega (arith, lt, dx.0))
same_forest l (AnEntry a children more) (AnEntry b kids' more') s t dx dy tx ty fs ft e =
    let heads : a ≡ b = cc in
    let tails : (flat children ++ flat more) ++ s ≡ (flat kids' ++ flat more') ++ t = cc in
    let inner : flat children ++ (flat more ++ s) ≡ flat kids' ++ (flat more' ++ t) = sym (append_assoc (flat children) (flat more) s) ∙ tails ∙ append_assoc (flat kids') (flat more') t in
    let below = same_forest a.level children kids' (flat more ++ s) (flat more' ++ t) tx.0 (subst (λ (x : PlainEntry). AreDeeper level_of x.level kids') (sym heads) ty.0) tx.1 ty.1
    (first_behind l a.level more s dx.0 tx.2 fs) (subst (λ (x : PlainEntry). FirstNotDeeper x.level (flat more' ++ t)) (sym heads) (first_behind l b.level more' t dy.0 ty.2 ft)) inner in
    let beside = same_forest l more more' s t dx.1 dy.1 tx.3 ty.3 fs ft below.1 in
    let k : children ≡ kids' = below.0 in
    let m : more ≡ more' = beside.0 in
    (cc, beside.1)

in_middle : (xs ys : List PlainEntry) (b : PlainEntry) (l : ℕ) → AllByRecursion (λ (d : PlainEntry). l < d.level) (xs ++ b ∷ ys) → l < b.level
in_middle [] ys b l all = all.0
in_middle (x ∷ xs) ys b l all = in_middle xs ys b l all.1

-- where all others are deeper than the first entry, there is one tree
pub one_root : (f : Forest PlainEntry) (e : PlainEntry) (es : List PlainEntry) → IsTree level_of f → AllByRecursion (λ (d : PlainEntry). e.level < d.level) es → flat f ≡ e ∷ es
    → (children : Forest PlainEntry) × (f ≡ AnEntry e children NoEntries)
one_root NoEntries e es t all is = absurd cc
one_root (AnEntry a children NoEntries) e es t all is = let same : a ≡ e = cc in (children, cc)
one_root (AnEntry a children (AnEntry b below more)) e es t all is =
    let same : a ≡ e = cc in
    let tails : flat children ++ b ∷ (flat below ++ flat more) ≡ es = cc in
    let lt = in_middle (flat children) (flat below ++ flat more) b e.level (subst (λ (l : List PlainEntry). AllByRecursion (λ (d : PlainEntry). e.level < d.level) l) (sym tails) all) in
    let le = subst (λ (x : PlainEntry). b.level ≤ x.level) same t.2 in
    absurd (omega (arith, lt, le))
