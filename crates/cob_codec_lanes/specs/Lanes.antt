-- Sixteen bytes as a list of lanes.
use Rattle.std.specs.Prelude.{◌≡◌, ℕ, ◌+◌, ◌/◌, ◌%◌, ◌<◌, ◌≤◌, ◌↔◌, Bool, ◌||◌, nat_lt, nat_le, ◌==◌, if◌then◌else◌, List, length, slice_index}
use Rattle.std.specs.Int.{w64, trailing_zeros}

-- The number of a lane, or none, which is 128 or more.
abbrev pub is_pick : ℕ → Bool
is_pick j = nat_lt j 16 || nat_le 128 j

-- The lane of that number, and 0 for none.
abbrev pub picked_at : List ℕ → ℕ → ℕ
picked_at v j = if nat_lt j 16 then slice_index v j else 0

-- The half bytes that are taken of sixteen bytes: the high half of one lane and the low half of another, of which one or both are none.
abbrev pub halves_at : List ℕ → ℕ → ℕ → ℕ
halves_at v high low =
    (if nat_lt high 16 then slice_index v high / 16 else 0) + (if nat_lt low 16 then slice_index v low % 16 else 0)

-- All lanes are 0.
abbrev pub AreZero : List ℕ → Type 0
AreZero v = (i : ℕ) → i < 16 → slice_index v i ≡ 0

-- All lanes are decimal digits.
abbrev pub AreTens : List ℕ → Type 0
AreTens v = (i : ℕ) → i < 16 → slice_index v i < 10

-- The half bytes of sixteen bytes are within their bounds.
pub record AreBounded (least_high most_high most_low v : List ℕ) : Type 0 where
  pub least : (i : ℕ) → i < 16 → slice_index least_high i ≤ slice_index v i / 16
  pub most : (i : ℕ) → i < 16 → slice_index v i / 16 ≤ slice_index most_high i
  pub low : (i : ℕ) → i < 16 → slice_index v i % 16 ≤ slice_index most_low i

-- The sums of half bytes with these numbers have their highest bit just where the half bytes are out of their bounds.
abbrev pub MarksBounds : (ℕ → ℕ) → (ℕ → ℕ) → List ℕ → Type 0
MarksBounds least most added =
    (i x : ℕ) → i < 16 → x < 16 → ((x + slice_index added i) % 256 / 128 ≡ 0) ↔ ((least i ≤ x) × (x ≤ most i))

-- The number of the lowest bit of a mask that is set, and 16 where none is.
abbrev pub first_set : ℕ → ℕ
first_set mask = if mask == 0 then 16 else trailing_zeros w64 mask

-- Sixteen bytes.
pub record IsVector (v : List ℕ) : Type 0 where
  pub long : length v ≡ 16
  pub small : (i : ℕ) → slice_index v i < 256
