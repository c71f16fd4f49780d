-- De-editing: the number that a text of an edited item stands for.
use Rattle.std.specs.Prelude.{◌≡◌, ℕ, Bool, List, Option, IsSomeAnd}
use Rattle.cob_decimal.specs.declared.number.Number.{Number}
use Rattle.cob_picture.specs.Positions.{PlainPicture}
use Rattle.cob_picture.specs.Counts.{scale}
use Rattle.cob_edit.specs.Pictured.{IsEdited, IsInRange}

-- The number is one that the picture can show, at its scale, and the bytes are its text.
abbrev pub IsNumberOf : PlainPicture → Bool → List ℕ → Number → Type 0
IsNumberOf picture blank bytes v =
    IsInRange picture v.negative v.digits
    × (v.scale ≡ scale picture.positions)
    × IsEdited picture blank v.negative v.digits v.scale bytes

-- A number that the picture can show is answered, at the picture's scale, where the bytes are its text.
abbrev pub ReadsNumber : PlainPicture → Bool → List ℕ → Option Number → Type 0
ReadsNumber picture blank bytes answer =
    (negative : Bool) (digits : List ℕ)
    → IsInRange picture negative digits
    → IsEdited picture blank negative digits (scale picture.positions) bytes
    → IsSomeAnd answer (λ v. (v.negative ≡ negative) × (v.digits ≡ digits) × (v.scale ≡ scale picture.positions))
