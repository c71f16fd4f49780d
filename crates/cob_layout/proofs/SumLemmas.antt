-- One spot among those that sums shift.
use Rattle.std.proofs.Common.{◌≡◌, ℕ, zero, suc, ◌+◌, ◌<◌, ◌≤◌, refl, List, [], ◌∷◌, length, get_or, ap, ◌∙◌, arith}
use Rattle.std.specs.Prelude.{slice_index}
use Rattle.std.proofs.lemmas.List.{get_or_past}
use Rattle.cob_layout_places.specs.declared.spots.Spot.{Spot}
use Rattle.cob_layout.specs.declared.shifts.Shift.{Shift}
use Rattle.cob_layout.specs.Shifts.{all_shifted, shifted_spot}

pub one_shifted : (sums counts : List ℕ) (k n : ℕ) (ss : List Shift) (ls : List Spot) (s : Shift) (x d : Spot) → n < length ss → length ls ≡ length ss
    → shifted_spot sums (slice_index counts (k + n)) (get_or ss n s) (get_or ls n x) ≡ get_or (all_shifted sums counts k ss ls) n d
one_shifted sums counts k n [] ls s x d lt long = absurd (omega (arith, lt))
one_shifted sums counts k n (y ∷ ss) [] s x d lt long = absurd (omega (arith, long))
one_shifted sums counts k zero (y ∷ ss) (l ∷ ls) s x d lt long =
    let here : k + 0 ≡ k = omega arith in
    ap (λ (m : ℕ). shifted_spot sums (slice_index counts m) y l) here
one_shifted sums counts k (suc n) (y ∷ ss) (l ∷ ls) s x d lt long =
    let next : k + suc n ≡ k + 1 + n = omega arith in
    ap (λ (m : ℕ). shifted_spot sums (slice_index counts m) (get_or ss n s) (get_or ls n x)) next ∙ one_shifted sums counts (k + 1) n ss ls s x d (omega (arith, lt)) (omega (arith, long))

pub as_many_shifted : (sums counts : List ℕ) (k : ℕ) (ss : List Shift) (ls : List Spot) → length ls ≡ length ss → length (all_shifted sums counts k ss ls) ≡ length ss
as_many_shifted sums counts k [] ls long = refl
as_many_shifted sums counts k (y ∷ ss) [] long = absurd (omega (arith, long))
as_many_shifted sums counts k (y ∷ ss) (l ∷ ls) long = omega (arith, as_many_shifted sums counts (k + 1) ss ls (omega (arith, long)))

pub none_shifted : (sums counts : List ℕ) (n : ℕ) (ss : List Shift) (ls : List Spot) (d : Spot) → length ss ≤ n → length ls ≡ length ss → get_or (all_shifted sums counts 0 ss ls) n d ≡ d
none_shifted sums counts n ss ls d past long = get_or_past (all_shifted sums counts 0 ss ls) n d (omega (arith, past, as_many_shifted sums counts 0 ss ls long))

-- so is the spot of an entry that has this count
pub shifted_there : (sums counts : List ℕ) (n count : ℕ) (ss : List Shift) (ls : List Spot) (s : Shift) (x d : Spot) → count ≡ slice_index counts n → n < length ss → length ls ≡ length ss
    → shifted_spot sums count (get_or ss n s) (get_or ls n x) ≡ get_or (all_shifted sums counts 0 ss ls) n d
shifted_there sums counts n count ss ls s x d is lt long =
    let here : n ≡ 0 + n = omega arith in
    ap (λ (m : ℕ). shifted_spot sums m (get_or ss n s) (get_or ls n x)) (is ∙ ap (slice_index counts) here) ∙ one_shifted sums counts 0 n ss ls s x d lt long
