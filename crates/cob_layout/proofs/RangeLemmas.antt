-- The range among whose bytes the items of counts that are kept stand.
use Rattle.std.proofs.Common.{◌≡◌, ℕ, ◌+◌, ◌<◌, ◌≤◌, Bool, true, false, List, [], ◌∷◌, length, drop, zero, suc, replicate, Option, Some, None, refl, sym, subst, arith, get_or}
use Rattle.std.specs.Prelude.{◌||◌, ◌&&◌, nat_lt}
use Rattle.std.proofs.lemmas.Bool.Decides.{nat_tests}
use Rattle.std.proofs.lemmas.List.{drop_more}
use Rattle.cob_layout.specs.declared.counts.KeptRange.{KeptRange}
use Rattle.cob_layout.specs.declared.counts.StoredCount.{StoredCount}
use Rattle.cob_layout.specs.declared.fields.Place.{Place}
use Rattle.cob_layout.specs.Standing.{LieWithin, LiesWithin, meets_item, meets_kept}

-- ---- where none is kept, none stands outside

all_none : (r : KeptRange) (n : ℕ) → LieWithin r (replicate n None)
all_none r zero = tt
all_none r (suc n) = (tt, all_none r n)

pub none_within : (r : KeptRange) (n : ℕ) (ks : List (Option StoredCount)) → ks ≡ replicate n None → LieWithin r ks
none_within r n ks is = subst (LieWithin r) (sym is) (all_none r n)

-- ---- a place past the range meets none of the items within it

past : (from end o l a b : ℕ) → from ≤ a → a + b ≤ end → (nat_lt o end && nat_lt from (o + l)) ≡ false → (nat_lt 0 l && (nat_lt o (a + b) && nat_lt a (o + l))) ≡ false
past from end o l a b low high e = grind (arith, nat_tests)

past_one : (r : KeptRange) (p : Place) (k : Option StoredCount) → LiesWithin r k → (nat_lt p.offset r.end && nat_lt r.from (p.offset + p.length)) ≡ false → meets_item p k ≡ false
past_one r p None h e = refl
past_one r p (Some k) h e = past r.from r.end p.offset p.length k.place.offset k.place.length h.0 h.1 e

or_not : (a b : Bool) → a ≡ false → b ≡ false → (a || b) ≡ false
or_not false b e f = f
or_not true b e f = absurd (cc)

pub past_all : (r : KeptRange) (p : Place) (ks : List (Option StoredCount)) → LieWithin r ks → (nat_lt p.offset r.end && nat_lt r.from (p.offset + p.length)) ≡ false → meets_kept p ks ≡ false
past_all r p [] h e = refl
past_all r p (k ∷ ks) h e = or_not (meets_item p k) (meets_kept p ks) (past_one r p k h.0 e) (past_all r p ks h.1 e)

-- ---- the range of several, one after another

-- the first range holds the second
abbrev pub HoldsRange : KeptRange → KeptRange → Type 0
HoldsRange r s = (r.from ≤ s.from) × (s.end ≤ r.end)

-- the same, beside those that are looked at
abbrev pub AllWithin : KeptRange → List (Option StoredCount) → ℕ → Type 0
AllWithin s ks i = (r : KeptRange) → HoldsRange r s → LieWithin r (drop i ks) → LieWithin r ks

pub all_with : (r s t : KeptRange) (k : StoredCount) (ks : List (Option StoredCount)) (i : ℕ) → i < length ks → get_or ks i None ≡ Some k → (t.from ≤ s.from) × (t.from ≤ k.place.offset)
    → (s.end ≤ t.end) × (k.place.offset + k.place.length ≤ t.end) → AllWithin s ks i → HoldsRange r t → LieWithin r (drop (i + 1) ks) → LieWithin r ks
all_with r s t k ks i lt is low high all wide rest =
    let own : LiesWithin r (get_or ks i None) = subst (LiesWithin r) (sym is) (omega (arith, low.1, wide.0), omega (arith, high.1, wide.1)) in
    all r (omega (arith, low.0, wide.0), omega (arith, high.0, wide.1)) (subst (LieWithin r) (sym (drop_more ks i None lt)) (own, rest))

pub all_without : (r s : KeptRange) (ks : List (Option StoredCount)) (i : ℕ) → i < length ks → get_or ks i None ≡ None → AllWithin s ks i → HoldsRange r s → LieWithin r (drop (i + 1) ks) → LieWithin r ks
all_without r s ks i lt is all wide rest =
    let own : LiesWithin r (get_or ks i None) = subst (LiesWithin r) (sym is) tt in
    all r wide (subst (LieWithin r) (sym (drop_more ks i None lt)) (own, rest))
