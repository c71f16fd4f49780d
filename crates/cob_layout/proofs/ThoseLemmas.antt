-- Those of the tables that are so: in their order, and only they.
use Rattle.std.proofs.Common.{◌≡◌, ◌⊎◌, ℕ, ◌+◌, ◌<◌, ◌≤◌, Bool, true, false, List, [], ◌∷◌, ◌++◌, refl, sym, ap, subst, ◌∙◌, arith, inl, inr}
use Rattle.std.specs.List.{AllByRecursion}
use Rattle.cob_copybook_tree.specs.declared.node.ResolvedOccurs.{ResolvedOccurs}
use Rattle.cob_copybook_tree.specs.declared.node.ResolvedOccurs.TheVariants.{Once, Fixed, Varying}
use Rattle.cob_copybook_tree.specs.Forests.{Forest, NoEntries, AnEntry, entries_in}
use Rattle.cob_copybook_tree.specs.Nodes.{Resolved}
use Rattle.cob_layout_places.specs.declared.varying.Table.{Table}
use Rattle.cob_layout_places.specs.Cover.{AreNumbered}
use Rattle.cob_layout_places.specs.Counts.{table_of, tables_of, Taken, OneOutcome}
use Rattle.cob_layout_places.specs.Needs.{keep}
use Rattle.cob_layout.specs.Counting.{greatest_counts, AreThose, IsRead}
use Rattle.cob_layout.specs.Laws.{OneOfAll, OneOfNeeded}
pub use Rattle.cob_layout.specs.Kept.{IsIn}

pub of_all : (P : Table → Type 0) (xs : List Table) (x : Table) → AllByRecursion P xs → IsIn x xs → P x
of_all P [] x h i = absurd i
of_all P (y ∷ ys) x h (inl e) = subst P (sym e) h.0
of_all P (y ∷ ys) x h (inr i) = of_all P ys x h.1 i

-- ---- they are one list

cons_same : (x : Table) (xs ys ps qs : List Table) → ps ≡ x ∷ xs → qs ≡ x ∷ ys → xs ≡ ys → ps ≡ qs
cons_same x xs ys ps qs a b e = a ∙ ap (λ (zs : List Table). x ∷ zs) e ∙ sym b

pub same_those : (P : Table → Type 0) (xs ps qs : List Table) → AreThose P xs ps → AreThose P xs qs → ps ≡ qs
same_those P [] ps qs h k = h ∙ sym k
same_those P (x ∷ xs) ps qs (inl h) (inl k) =
    let (others, cut, rest) = h.1 in
    let (behind, split, last) = k.1 in
    cons_same x others behind ps qs cut split (same_those P xs others behind rest last)
same_those P (x ∷ xs) ps qs (inl h) (inr k) = absurd (k.0 h.0)
same_those P (x ∷ xs) ps qs (inr h) (inl k) = absurd (h.0 k.0)
same_those P (x ∷ xs) ps qs (inr h) (inr k) = same_those P xs ps qs h.1 k.1

pub those_in : (P : Table → Type 0) (xs ys : List Table) (y : Table) → AreThose P xs ys → IsIn y ys → IsIn y xs × P y
those_in P [] ys y h i = absurd (subst (IsIn y) h i)
those_in P (x ∷ xs) ys y (inl h) i =
    let (others, cut, rest) = h.1 in
    let j : IsIn y (x ∷ others) = subst (IsIn y) cut i in
    elim j [
      | inl e ↦ (inl e, subst P (sym e) h.0)
      | inr k ↦ (let found = those_in P xs others y rest k in (inr found.0, found.1))
    ]
those_in P (x ∷ xs) ys y (inr h) i = (let found = those_in P xs ys y h.1 i in (inr found.0, found.1))

pub in_those : (P : Table → Type 0) (xs ys : List Table) (y : Table) → AreThose P xs ys → IsIn y xs → P y → IsIn y ys
in_those P [] ys y h i p = absurd i
in_those P (x ∷ xs) ys y (inl h) (inl e) p = let (others, cut, rest) = h.1 in subst (IsIn y) (sym cut) (inl e)
in_those P (x ∷ xs) ys y (inl h) (inr i) p = let (others, cut, rest) = h.1 in subst (IsIn y) (sym cut) (inr (in_those P xs others y rest i p))
in_those P (x ∷ xs) ys y (inr h) (inl e) p = absurd (h.0 (subst P e p))
in_those P (x ∷ xs) ys y (inr h) (inr i) p = in_those P xs ys y h.1 i p

-- each table is so or isn't
pub decided : (P : Table → Type 0) (xs ys : List Table) (x : Table) → AreThose P xs ys → IsIn x xs → P x ⊎ (P x → ⊥)
decided P [] ys x h i = absurd i
decided P (y ∷ xs) ys x (inl h) (inl e) = inl (subst P (sym e) h.0)
decided P (y ∷ xs) ys x (inr h) (inl e) = inr (λ p. h.0 (subst P e p))
decided P (y ∷ xs) ys x (inl h) (inr i) = let (others, cut, rest) = h.1 in decided P xs others x rest i
decided P (y ∷ xs) ys x (inr h) (inr i) = decided P xs ys x h.1 i

-- ---- those that pass a test

two_ways : (b : Bool) → (b ≡ true) ⊎ (b ≡ false)
two_ways true = inl refl
two_ways false = inr refl

pub keep_yes : (test : Table → Bool) (x : Table) (xs : List Table) → test x ≡ true → keep test (x ∷ xs) ≡ x ∷ keep test xs
keep_yes test x xs e = rw e refl

pub keep_no : (test : Table → Bool) (x : Table) (xs : List Table) → test x ≡ false → keep test (x ∷ xs) ≡ keep test xs
keep_no test x xs e = rw e refl

not_both : (b : Bool) → b ≡ true → b ≡ false → ⊥
not_both b t f = cc

pub kept_those : (P : Table → Type 0) (test : Table → Bool) (xs : List Table) → ((x : Table) → IsIn x xs → (test x ≡ true → P x) × (P x → test x ≡ true)) → AreThose P xs (keep test xs)
kept_those P test [] h = refl
kept_those P test (x ∷ xs) h = elim (two_ways (test x)) [
  | inl e ↦ inl ((h x (inl refl)).0 e, (keep test xs, keep_yes test x xs e, kept_those P test xs (λ y i. h y (inr i))))
  | inr e ↦ (let rest : AreThose P xs (keep test xs) = kept_those P test xs (λ y i. h y (inr i)) in
      inr ((λ p. not_both (test x) ((h x (inl refl)).1 p) e), subst (AreThose P xs) (sym (keep_no test x xs e)) rest))
]

-- ---- tables stand in the order of their numbers

-- the numbers of tables rise from n on, and stay below m
abbrev pub Rise : ℕ → ℕ → List Table → Type 0
Rise n m [] = n ≤ m
Rise n m (x ∷ xs) = (n ≤ x.number) × Rise (x.number + 1) m xs

rise_from : (n m k : ℕ) (xs : List Table) → n ≤ m → Rise m k xs → Rise n k xs
rise_from n m k [] l h = omega (arith, l, h)
rise_from n m k (x ∷ xs) l h = (omega (arith, l, h.0), h.1)

rise_append : (n m k : ℕ) (xs ys : List Table) → Rise n m xs → Rise m k ys → Rise n k (xs ++ ys)
rise_append n m k [] ys h r = rise_from n m k ys h r
rise_append n m k (x ∷ xs) ys h r = (h.0, rise_append (x.number + 1) m k xs ys h.1 r)

rise_one : (o : ResolvedOccurs) (number n : ℕ) → number ≡ n → Rise n (n + 1) (table_of o number)
rise_one Once number n e = omega arith
rise_one (Fixed k) number n e = omega arith
rise_one (Varying least most count) number n e = (omega (arith, e), omega (arith, e))

pub rise_all : (f : Forest Resolved) (n m : ℕ) → AreNumbered n f → n + entries_in f ≡ m → Rise n m (tables_of f)
rise_all NoEntries n m h e = omega (arith, e)
rise_all (AnEntry e children more) n m h is =
    let behind = n + 1 + entries_in children in
    let below = rise_all children (n + 1) behind h.1 refl in
    let beside = rise_all more behind m h.2 (omega (arith, is)) in
    rise_append n (n + 1) m (table_of e.occurs e.number) (tables_of children ++ tables_of more) (rise_one e.occurs e.number n h.0)
    (rise_append (n + 1) behind m (tables_of children) (tables_of more) below beside)

pub rise_those : (P : Table → Type 0) (n m : ℕ) (xs ys : List Table) → AreThose P xs ys → Rise n m xs → Rise n m ys
rise_those P n m [] ys h r = subst (Rise n m) (sym h) r
rise_those P n m (x ∷ xs) ys (inl h) r =
    let (others, cut, rest) = h.1 in
    subst (Rise n m) (sym cut) (r.0, rise_those P (x.number + 1) m xs others rest r.1)
rise_those P n m (x ∷ xs) ys (inr h) r = rise_from n (x.number + 1) m ys (omega (arith, r.0)) (rise_those P (x.number + 1) m xs ys h.1 r.1)

pub rise_low : (n m : ℕ) (xs : List Table) (x : Table) → Rise n m xs → IsIn x xs → n ≤ x.number
rise_low n m [] x h i = absurd i
rise_low n m (y ∷ ys) x h (inl e) = omega (arith, h.0, ap (λ (z : Table). z.number) e)
rise_low n m (y ∷ ys) x h (inr i) = omega (arith, h.0, rise_low (y.number + 1) m ys x h.1 i)

rise_end : (n m : ℕ) (xs : List Table) → Rise n m xs → n ≤ m
rise_end n m [] h = h
rise_end n m (x ∷ xs) h = omega (arith, h.0, rise_end (x.number + 1) m xs h.1)

pub rise_high : (n m : ℕ) (xs : List Table) (x : Table) → Rise n m xs → IsIn x xs → x.number < m
rise_high n m [] x h i = absurd i
rise_high n m (y ∷ ys) x h (inl e) = omega (arith, rise_end (y.number + 1) m ys h.1, ap (λ (z : Table). z.number) e)
rise_high n m (y ∷ ys) x h (inr i) = rise_high (y.number + 1) m ys x h.1 i

-- no two have one number
pub one_number : (n m : ℕ) (xs : List Table) (x y : Table) → Rise n m xs → IsIn x xs → IsIn y xs → x.number ≡ y.number → x ≡ y
one_number n m [] x y h i j e = absurd i
one_number n m (z ∷ zs) x y h (inl a) (inl b) e = a ∙ sym b
one_number n m (z ∷ zs) x y h (inl a) (inr j) e = absurd (omega (arith, e, ap (λ (w : Table). w.number) a, rise_low (z.number + 1) m zs y h.1 j))
one_number n m (z ∷ zs) x y h (inr i) (inl b) e = absurd (omega (arith, e, ap (λ (w : Table). w.number) b, rise_low (z.number + 1) m zs x h.1 i))
one_number n m (z ∷ zs) x y h (inr i) (inr j) e = one_number (z.number + 1) m zs x y h.1 i j e

-- ---- one outcome

pub one_of_all : OneOutcome → OneOfAll
one_of_all one t bytes a b h k = one t bytes (tables_of t) (greatest_counts t) a b h k

pub one_of_needed : OneOutcome → OneOfNeeded
one_of_needed one t r receiving bytes a b (xs, those, h) (ys, others, k) =
    let same : ys ≡ xs = same_those (IsRead t r receiving) (tables_of t) ys xs others those in
    one t bytes xs (greatest_counts t) a b h (subst (λ (zs : List Table). Taken t bytes zs (greatest_counts t) b) same k)
