-- What was read of a source that is read whole.
use Rattle.std.specs.Prelude.{◌≡◌, ◌≤◌, ◌++◌, ℕ, Bool, true, false, List, length, Option, Result, Err}
use Rattle.std.specs.Io.KnownBytes.{prepend_known, IsAtEnd}
use Rattle.cob_program_faults.specs.declared.whole_text.TextFault.{TextFault}
use Rattle.cob_program_faults.specs.declared.whole_text.TextFault.TheVariants.{Memory, NotOpened, NotRead}

-- What was to come of a source before is what was read of it and what is still to come.
abbrev pub IsReadOf : Option (List ℕ) → Option (List ℕ) → List ℕ → Type 0
IsReadOf before now bytes = before ≡ prepend_known bytes now

-- Behind the bytes that were read before stands a piece more, which was read of what was to come.
abbrev pub IsPieceOf : Option (List ℕ) → Option (List ℕ) → (read all : List ℕ) → Type 0
IsPieceOf before now read all = (piece : List ℕ) × (all ≡ read ++ piece) × IsReadOf before now piece

-- It is all that the source had, or more than so many bytes.
abbrev pub IsWhole : ℕ → Option (List ℕ) → List ℕ → Type 0
IsWhole most now bytes = length bytes ≤ most → IsAtEnd now

-- a call of the source failed
abbrev pub is_failed_read : {T : Type 0} → Result T TextFault → Bool
is_failed_read (Err NotRead) = true
is_failed_read answer = false

-- a fault of reading: what is read is open
abbrev pub IsReadingFault : TextFault → Type 0
IsReadingFault NotOpened = ⊥
IsReadingFault NotRead = Unit {0}
IsReadingFault Memory = Unit {0}
