-- How often an entry is in a pair.
use Rattle.std.proofs.Common.{◌≡◌, ℕ, suc, ◌+◌, ◌<◌, ◌≤◌, ◌==◌, Bool, true, false, List, [], ◌∷◌, ◌++◌, length, map, refl, sym, ap, subst, ◌∙◌, arith}
use Rattle.std.specs.Prelude.{filter}
use Rattle.std.proofs.lemmas.Bool.Decides.{nat_tests}
use Rattle.std.proofs.lemmas.List.{length-append}
use Rattle.std.proofs.lemmas.List.Elements.{filter-append}
use Rattle.cob_move_statements.specs.declared.fault.MoveRule.{MoveRule}
use Rattle.cob_move_statements.specs.declared.fault.MoveRule.TheVariants as rule
use Rattle.cob_move_names.specs.Pairs.{AreOnce, Pair, Subordinate, pairs_from, partners, receives, sends}
use Rattle.cob_move_names.specs.Pairing.{IsTwice, paired}
use Rattle.cob_move_names.specs.Partners.{MoreThanOne}

abbrev pub one_if : Bool → ℕ
one_if true = 1
one_if false = 0

counted : {A : Type 0} (f : A → Bool) (x : A) (xs : List A) (t : Bool) → f x ≡ t → length (filter f (x ∷ xs)) ≡ one_if t + length (filter f xs)
counted f x xs true e = rw e (omega arith)
counted f x xs false e = rw e (omega arith)

sends_append : (n : ℕ) (xs ys : List Pair) → sends n (xs ++ ys) ≡ sends n xs + sends n ys
sends_append n xs ys = ap length (filter-append (λ (q : Pair). q.from.number == n) xs ys) ∙ length-append (filter (λ (q : Pair). q.from.number == n) xs) (filter (λ (q : Pair). q.from.number == n) ys)

receives_append : (n : ℕ) (xs ys : List Pair) → receives n (xs ++ ys) ≡ receives n xs + receives n ys
receives_append n xs ys = ap length (filter-append (λ (q : Pair). q.to.number == n) xs ys) ∙ length-append (filter (λ (q : Pair). q.to.number == n) xs) (filter (λ (q : Pair). q.to.number == n) ys)

-- one pair more
pub sends_more : (n : ℕ) (ps : List Pair) (p : Pair) (t : Bool) → (p.from.number == n) ≡ t → sends n (ps ++ p ∷ []) ≡ sends n ps + one_if t
sends_more n ps p t e = omega (arith, sends_append n ps (p ∷ []), counted (λ (q : Pair). q.from.number == n) p [] t e)

pub receives_more : (n : ℕ) (ps : List Pair) (p : Pair) (t : Bool) → (p.to.number == n) ≡ t → receives n (ps ++ p ∷ []) ≡ receives n ps + one_if t
receives_more n ps p t e = omega (arith, receives_append n ps (p ∷ []), counted (λ (q : Pair). q.to.number == n) p [] t e)

-- pairs in front of others
pub once_front : (xs ys : List Pair) → AreOnce (xs ++ ys) → AreOnce xs
once_front xs ys h = λ n. (omega (arith, (h n).0, sends_append n xs ys), omega (arith, (h n).1, receives_append n xs ys))

pub none_once : AreOnce []
none_once = λ n. (omega arith, omega arith)

pub same_number : (a b : ℕ) → (a == b) ≡ true → a ≡ b
same_number a b e = grind (arith, nat_tests)

own_number : (a : ℕ) → (a == a) ≡ true
own_number a = grind (arith, nat_tests)

sent_more : (n : ℕ) (ps : List Pair) (p : Pair) (t : Bool) → (p.from.number == n) ≡ t → sends p.from.number ps ≡ 0 → sends n ps ≤ 1 → sends n (ps ++ p ∷ []) ≤ 1
sent_more n ps p true e none le =
    let own : sends n ps ≡ 0 = subst (λ (m : ℕ). sends m ps ≡ 0) (same_number p.from.number n e) none in
    omega (arith, own, sends_append n ps (p ∷ []), counted (λ (q : Pair). q.from.number == n) p [] true e)
sent_more n ps p false e none le = omega (arith, le, sends_append n ps (p ∷ []), counted (λ (q : Pair). q.from.number == n) p [] false e)

received_more : (n : ℕ) (ps : List Pair) (p : Pair) (t : Bool) → (p.to.number == n) ≡ t → receives p.to.number ps ≡ 0 → receives n ps ≤ 1 → receives n (ps ++ p ∷ []) ≤ 1
received_more n ps p true e none le =
    let own : receives n ps ≡ 0 = subst (λ (m : ℕ). receives m ps ≡ 0) (same_number p.to.number n e) none in
    omega (arith, own, receives_append n ps (p ∷ []), counted (λ (q : Pair). q.to.number == n) p [] true e)
received_more n ps p false e none le = omega (arith, le, receives_append n ps (p ∷ []), counted (λ (q : Pair). q.to.number == n) p [] false e)

-- a pair whose entries are in none yet
pub once_more : (ps : List Pair) (p : Pair) → sends p.from.number ps ≡ 0 → receives p.to.number ps ≡ 0 → AreOnce ps → AreOnce (ps ++ p ∷ [])
once_more ps p s r h = λ n. (sent_more n ps p (p.from.number == n) refl s (h n).0, received_more n ps p (p.to.number == n) refl r (h n).1)

-- a pair one of whose entries is in one already
pub sent_twice : (ps : List Pair) (p : Pair) → 0 < sends p.from.number ps → AreOnce (ps ++ p ∷ []) → ⊥
sent_twice ps p lt h =
    absurd (omega (arith, lt, (h p.from.number).0, sends_append p.from.number ps (p ∷ []), counted (λ (q : Pair). q.from.number == p.from.number) p [] true (own_number p.from.number)))

pub received_twice : (ps : List Pair) (p : Pair) → 0 < receives p.to.number ps → AreOnce (ps ++ p ∷ []) → ⊥
received_twice ps p lt h =
    absurd (omega (arith, lt, (h p.to.number).1, receives_append p.to.number ps (p ∷ []), counted (λ (q : Pair). q.to.number == p.to.number) p [] true (own_number p.to.number)))

-- what is so of the first pairs is so of all
pub twice_front : (r : MoveRule) (xs ys all : List Pair) → all ≡ xs ++ ys → IsTwice r xs → IsTwice r all
twice_front rule.Twice xs ys all e h = λ o. h (once_front xs ys (subst (λ (ps : List Pair). AreOnce ps) e o))
twice_front rule.Memory xs ys all e h = tt
twice_front r xs ys all e h = absurd h

one_longer : (a b : ℕ) → a ≡ b → 1 + a ≡ suc b
one_longer a b e = omega (arith, e)

-- a sending entry is in as many pairs as it has partners
sends_all : (x : Subordinate) (ys : List Subordinate) → sends x.number (map (paired x) ys) ≡ length ys
sends_all x [] = refl
sends_all x (y ∷ ys) = counted (λ (q : Pair). q.from.number == x.number) (paired x y) (map (paired x) ys) true (own_number x.number) ∙ one_longer (sends x.number (map (paired x) ys)) (length ys) (sends_all x ys)

-- one that has several is in several pairs
pub more_twice : (r : MoveRule) (now : List Pair) (x : Subordinate) (tos : List Subordinate) → MoreThanOne r (partners tos x) → IsTwice r (now ++ pairs_from tos x)
more_twice r now x tos h = subst (λ (y : MoveRule). IsTwice y (now ++ pairs_from tos x)) (sym h.0) (λ once. too_many once)
  where
    too_many : AreOnce (now ++ pairs_from tos x) → ⊥
    too_many once = omega (arith, (once x.number).0, sends_append x.number now (pairs_from tos x), sends_all x (partners tos x), h.1)
