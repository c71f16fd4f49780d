-- The bytes in which two records differ.
use Rattle.std.specs.Prelude.{◌≡◌, ℕ, ◌+◌, ◌==◌, List, [], ◌∷◌, ◌++◌, length, take, if◌then◌else◌}
use Rattle.cob_report_compare.specs.declared.bytes.ByteDifference.{ByteDifference}
use Rattle.cob_report_compare.specs.declared.bytes.FirstBytes.{FirstBytes}

-- so many of the differences of a record are told at most
abbrev pub most_told : ℕ
most_told = 20

-- a byte of two records, where it differs
abbrev pub difference_at_byte : ByteDifference → List ByteDifference
difference_at_byte byte = if byte.left == byte.right then [] else byte ∷ []

-- the bytes that differ in two records, as far as both go, with their offsets, of which the first is this
abbrev pub bytes_from : ℕ → List ℕ → List ℕ → List ByteDifference
bytes_from offset [] rs = []
bytes_from offset (l ∷ ls) [] = []
bytes_from offset (l ∷ ls) (r ∷ rs) = difference_at_byte (record { offset = offset; left = l; right = r }) ++ bytes_from (offset + 1) ls rs

-- of these bytes that differ the first are told, and their number
pub record AreFirstOfBytes (all : List ByteDifference) (told : FirstBytes) : Type 0 where
  pub first : told.first.items ≡ take most_told all
  pub count : told.count ≡ length all

-- of the bytes that differ in two records the first are told, and their number
abbrev pub AreFirstBytes : List ℕ → List ℕ → FirstBytes → Type 0
AreFirstBytes l r told = AreFirstOfBytes (bytes_from 0 l r) told
