-- What stands first in the bytes of a stream, as a function of them: a record, the end, or a frame that can't be read.
use Rattle.std.specs.Prelude.{ℕ, zero, suc, ◌+◌, ◌-◌, nat_lt, if◌then◌else◌, List, [], ◌∷◌, length, take, drop, None, Some, Option, Ok, Err, Result}
use Rattle.cob_records.specs.BlockReads.{is_no_block}
use Rattle.cob_records.specs.Frame.{number_in, refusal}
use Rattle.cob_records.specs.declared.records.Form.{Form}
use Rattle.cob_records.specs.declared.records.Form.TheVariants.{Fixed, Variable, Blocked}
use Rattle.cob_records.specs.declared.records.RecordFault.{RecordFault}
use Rattle.cob_records.specs.declared.records.RecordFault.TheVariants.{Truncated, BlockDescriptor, PastBlock}

-- What comes first: the answer of a reading that does not fail, the record, what the open block holds behind it, and the bytes behind it.
pub record First : Type 0 where
  pub answer : Result (Option ℕ) RecordFault
  pub body : List ℕ
  pub after : ℕ
  pub rest : List ℕ

-- what comes first, by its parts
abbrev pub first : Result (Option ℕ) RecordFault → List ℕ → ℕ → List ℕ → First
first answer body after rest = record { answer = answer; body = body; after = after; rest = rest }

-- the frame of a record of n bytes, in a block that still holds `room` bytes behind `lead` others
abbrev pub of_frame : (room lead n : ℕ) → List ℕ → First
of_frame room lead n bytes =
    if nat_lt room (4 + n) then first (Err PastBlock) [] 0 (drop 4 bytes)
    else (if nat_lt (length bytes) (4 + n) then first (Err (Truncated (lead + length bytes))) [] 0 []
    else first (Ok (Some n)) (take n (drop 4 bytes)) (room - (4 + n)) (drop n (drop 4 bytes)))

-- the same, where this refuses its descriptor, or nothing does
abbrev pub by_refusal : (room lead : ℕ) → List ℕ → Option RecordFault → First
by_refusal room lead bytes (Some fault) = first (Err fault) [] 0 (drop 4 bytes)
by_refusal room lead bytes None = of_frame room lead (number_in bytes - 4) bytes

-- the next frame of a block that still holds `room` bytes behind `lead` others
abbrev pub in_block : (greatest room lead : ℕ) → List ℕ → First
in_block greatest room lead bytes =
    if nat_lt room 4 then first (Err PastBlock) [] 0 bytes
    else (if nat_lt (length bytes) 4 then first (Err (Truncated (lead + length bytes))) [] 0 []
    else by_refusal room lead bytes (refusal greatest (take 4 bytes)))

-- the next block, and its first frame
abbrev pub at_block : (most greatest : ℕ) → List ℕ → First
at_block most greatest [] = first (Ok None) [] 0 []
at_block most greatest (byte ∷ bytes) =
    if nat_lt (length (byte ∷ bytes)) 4 then first (Err (Truncated (length (byte ∷ bytes)))) [] 0 []
    else (if is_no_block most (take 4 (byte ∷ bytes)) then first (Err BlockDescriptor) [] 0 (drop 4 (byte ∷ bytes))
    else in_block greatest (number_in (byte ∷ bytes) - 4) 4 (drop 4 (byte ∷ bytes)))

-- the next frame of blocks, of which the open one still holds `left` bytes
abbrev pub first_blocked : (most greatest left : ℕ) → List ℕ → First
first_blocked most greatest zero bytes = at_block most greatest bytes
first_blocked most greatest (suc n) bytes = in_block greatest (suc n) 0 bytes

-- the next record of one length
abbrev pub first_fixed : (greatest left : ℕ) → List ℕ → First
first_fixed greatest left [] = first (Ok None) [] left []
first_fixed greatest left (byte ∷ bytes) =
    if nat_lt (length (byte ∷ bytes)) greatest then first (Err (Truncated (length (byte ∷ bytes)))) [] left []
    else first (Ok (Some greatest)) (take greatest (byte ∷ bytes)) left (drop greatest (byte ∷ bytes))

-- the same, where so many bytes of the open block are left behind it
abbrev pub leaving : ℕ → First → First
leaving left found = first found.answer found.body left found.rest

-- the next frame with a descriptor, without blocks: as in one that has room for it
abbrev pub first_variable : (greatest left : ℕ) → List ℕ → First
first_variable greatest left [] = first (Ok None) [] left []
first_variable greatest left (byte ∷ bytes) = leaving left (in_block greatest (4 + number_in (byte ∷ bytes)) 0 (byte ∷ bytes))

-- what stands first in these bytes of a stream in this form, where the open block still holds `left` bytes
abbrev pub first_frame_in : Form → (greatest left : ℕ) → List ℕ → First
first_frame_in Fixed greatest left bytes = first_fixed greatest left bytes
first_frame_in Variable greatest left bytes = first_variable greatest left bytes
first_frame_in (Blocked most) greatest left bytes = first_blocked most greatest left bytes
