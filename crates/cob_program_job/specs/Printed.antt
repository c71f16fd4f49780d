-- Bytes that are printed as their text behind what was printed before, where the last byte's low digit may still be due.
use Rattle.std.specs.Prelude.{◌≡◌, ℕ, ◌+◌, ◌-◌, ◌*◌, nat_lt, if◌then◌else◌, Bool, true, not, List, [], ◌∷◌, length, drop, None, Some, Option, Ok, Err, Result}
use Rattle.std.specs.Io.KnownBytes.{append_known}
use Rattle.cob_records.specs.declared.device.DeviceFault.{DeviceFault}
use Rattle.cob_records.specs.Hex.{hex_text}

-- the digit of a character, which is a capital hexadecimal digit
abbrev pub digit_in : ℕ → ℕ
digit_in character = if nat_lt character 65 then character - 48 else character - 55

-- the bytes that a text says, two capital hexadecimal digits for each
abbrev pub bytes_in : List ℕ → List ℕ
bytes_in [] = []
bytes_in (high ∷ []) = []
bytes_in (high ∷ low ∷ text) = (16 * digit_in high + digit_in low) ∷ bytes_in text

-- the bytes whose text is printed behind what was told before, where an end tells what it has
abbrev pub bytes_behind : Option (List ℕ) → Option (List ℕ) → Option (List ℕ)
bytes_behind before None = None
bytes_behind None (Some now) = Some (bytes_in now)
bytes_behind (Some before) (Some now) = Some (bytes_in (drop (length before) now))

-- the bytes that are known, or none
abbrev pub known_or_none : Option (List ℕ) → List ℕ
known_or_none None = []
known_or_none (Some bytes) = bytes

-- behind what was told before stands the text of bytes, and nothing else
abbrev pub IsTextBehind : Option (List ℕ) → Option (List ℕ) → Type 0
IsTextBehind before now = now ≡ append_known before (hex_text (known_or_none (bytes_behind before now)))

-- the text of a digit that is due, if there is one
abbrev pub due_text : Option ℕ → List ℕ
due_text None = []
due_text (Some digit) = digit ∷ []

-- what an end told and the digit that is due behind it
abbrev pub with_due : Option (List ℕ) → Option ℕ → Option (List ℕ)
with_due told due = append_known told (due_text due)

-- a flag says whether there are bytes; nothing is said where they are not known
abbrev pub says_some : Bool → Option (List ℕ) → Bool
says_some flag None = true
says_some flag (Some []) = not flag
says_some flag (Some (byte ∷ bytes)) = flag

-- a call that writes the digit that is due failed, or left it due
abbrev pub left_due : Result Bool DeviceFault → Bool
left_due (Err fault) = true
left_due (Ok done) = not done

-- a digit is due only where a byte was taken
abbrev pub owes_begun : Option ℕ → Bool → Bool
owes_begun None begun = true
owes_begun (Some digit) begun = begun

-- Where an end tells what it has, a flag says whether there are bytes.
abbrev pub IsBegunBy : Bool → Option (List ℕ) → List ℕ → Type 0
IsBegunBy begun None bytes = Unit {0}
IsBegunBy begun (Some told) bytes = says_some begun (Some bytes) ≡ true

-- of an end, with a digit that is due behind what it told, the text of bytes is printed behind what was told before
abbrev pub Appends : (before now : Option (List ℕ)) → List ℕ → Type 0
Appends before now bytes = now ≡ append_known before (hex_text bytes)
