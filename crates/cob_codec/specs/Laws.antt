-- What holds of every kind of storage.
use Rattle.std.specs.Prelude.{◌≡◌, ℕ, List, Bool, length}
use Rattle.cob_decimal.specs.Decimal.{number_of}
use Rattle.cob_codec.specs.Sign.{IsHeld}

-- Bytes represent at most one number.
abbrev pub OneNumber : (List ℕ → Bool → List ℕ → Type 0) → Type 0
OneNumber represents =
    (bytes : List ℕ) (a b : Bool) (ds es : List ℕ)
    → represents bytes a ds
    → represents bytes b es
    → (a ≡ b) × (ds ≡ es)

-- What was stored for a number that an item of so many digits holds, signed or not, represents this number.
abbrev pub ReadsBack : ℕ → Bool → (Bool → List ℕ → List ℕ) → (List ℕ → Bool → List ℕ → Type 0) → Type 0
ReadsBack count signed stored represents =
    (negative : Bool) (digits : List ℕ)
    → IsHeld count signed negative digits
    → represents (stored negative digits) negative digits

-- What is stored for a number that an item of so many digits holds, signed or not, has this length.
abbrev pub HasStoredLength : ℕ → Bool → (Bool → List ℕ → List ℕ) → ℕ → Type 0
HasStoredLength count signed stored size =
    (negative : Bool) (digits : List ℕ) → IsHeld count signed negative digits → length (stored negative digits) ≡ size

-- What bytes represent is a number that an item of so many digits holds, signed or not.
abbrev pub RepresentsHeld : ℕ → Bool → (List ℕ → Bool → List ℕ → Type 0) → Type 0
RepresentsHeld count signed represents =
    (bytes : List ℕ) (negative : Bool) (digits : List ℕ)
    → represents bytes negative digits
    → IsHeld count signed negative digits

-- Where bytes represent a number in two readings, it is one number.
abbrev pub OneValue : (List ℕ → Bool → List ℕ → Type 0) → (List ℕ → Bool → List ℕ → Type 0) → Type 0
OneValue one other =
    (bytes : List ℕ) (a b : Bool) (ds es : List ℕ)
    → one bytes a ds
    → other bytes b es
    → (a ≡ b) × (number_of ds ≡ number_of es)

-- What one reading reads, the other reads too, as the same number.
abbrev pub ReadsToo : (List ℕ → Bool → List ℕ → Type 0) → (List ℕ → Bool → List ℕ → Type 0) → Type 0
ReadsToo one other = (bytes : List ℕ) (negative : Bool) (digits : List ℕ) → one bytes negative digits → other bytes negative digits
