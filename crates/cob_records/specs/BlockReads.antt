-- Frames in blocks, as a reader sees them: what stands before the next one, what refuses it, and what a reader says of it.
use Rattle.std.specs.Prelude.{◌≡◌, ◌⊎◌, ℕ, zero, suc, ◌+◌, ◌<◌, ◌≤◌, Bool, true, false, ◌==◌, nat_lt, ◌||◌, not, List, [], ◌++◌, length, take, slice_index, None, Some, Option, Ok, Err, Result}
use Rattle.cob_records.specs.declared.records.Form.TheVariants.{Variable}
use Rattle.cob_records.specs.declared.records.RecordFault.{RecordFault}
use Rattle.cob_records.specs.declared.records.RecordFault.TheVariants.{Truncated, Descriptor, Spanned, Length, ReadFailed, WriteFailed, TookNothing, BlockDescriptor, PastBlock}
use Rattle.cob_records.specs.Frame.{IsRecord, descriptor, framed, number_in, refusal}

-- No block descriptor word: its third or fourth byte isn't zero, or its number is below 8 or over the greatest length of a block.
abbrev pub is_no_block : ℕ → List ℕ → Bool
is_no_block most head =
    not (slice_index head 2 == 0) || (not (slice_index head 3 == 0) || (nat_lt (number_in head) 8 || nat_lt most (number_in head)))

-- What stands before the next frame, where the open block still holds so many bytes: nothing; or at a block's start the descriptor of a block whose
-- frames have `room` bytes.
abbrev pub Leads : (most left room : ℕ) → List ℕ → Type 0
Leads most zero room lead = (lead ≡ descriptor room) × (4 ≤ room) × (4 + room ≤ most)
Leads most (suc n) room lead = (lead ≡ []) × (room ≡ suc n)

-- These bytes are less than a whole frame in a block that still holds `room` bytes: less than its descriptor, or that and less than it says.
abbrev pub IsCutFrame : (greatest room : ℕ) → List ℕ → Type 0
IsCutFrame greatest room bytes =
    (length bytes < 4)
    ⊎ ((n : ℕ) × (part : List ℕ) × (0 < n) × (n ≤ greatest) × (4 + n ≤ room) × (bytes ≡ descriptor n ++ part) × (length part < n))

-- the same with the block's descriptor, where a block begins
abbrev pub IsCutInBlock : (most greatest left : ℕ) → List ℕ → Type 0
IsCutInBlock most greatest left bytes =
    ((left ≡ 0) × (length bytes < 4))
    ⊎ ((room : ℕ) × (lead part : List ℕ) × Leads most left room lead × (4 ≤ room) × (bytes ≡ lead ++ part) × IsCutFrame greatest room part)

-- no whole descriptor stands in what the block still holds, or that of a frame which is longer
abbrev pub PassesBlock : (greatest room : ℕ) → List ℕ → List ℕ → Type 0
PassesBlock greatest room bytes rest =
    ((room < 4) × (rest ≡ bytes))
    ⊎ ((n : ℕ) × (0 < n) × (n ≤ greatest) × (room < 4 + n) × (4 ≤ room) × (bytes ≡ descriptor n ++ rest))

-- the next record comes whole, and so many bytes of its block are left behind it
abbrev pub ComesInBlock : (most left : ℕ) → List ℕ → List ℕ → ℕ → List ℕ → Type 0
ComesInBlock most left body bytes after rest =
    (room : ℕ) × (lead : List ℕ) × Leads most left room lead × (bytes ≡ lead ++ (framed Variable body ++ rest)) × (room ≡ 4 + length body + after)

-- a refused descriptor of a record stands first in the block, and nothing past it was read
abbrev pub RefusesInBlock : (most greatest left : ℕ) → RecordFault → List ℕ → List ℕ → Type 0
RefusesInBlock most greatest left fault bytes rest =
    (room : ℕ) × (lead head : List ℕ) × Leads most left room lead × (4 ≤ room) × (length head ≡ 4) × (refusal greatest head ≡ Some fault)
    × (bytes ≡ lead ++ (head ++ rest))

-- What the answer to a call that reads the next frame in blocks says, where the open block still holds so many bytes: of the bytes that were to come,
-- of the record at the front of the caller's slice, of what the block holds behind it, and of what is still to come.
abbrev pub ReadsInBlock : (most greatest left : ℕ) → List ℕ → Result (Option ℕ) RecordFault → ℕ → List ℕ → List ℕ → Type 0
ReadsInBlock most greatest left slice (Ok None) after bytes rest = (left ≡ 0) × (after ≡ 0) × (bytes ≡ []) × (rest ≡ [])
ReadsInBlock most greatest left slice (Ok (Some count)) after bytes rest =
    (count ≤ length slice) × IsRecord Variable greatest (take count slice) × ComesInBlock most left (take count slice) bytes after rest
ReadsInBlock most greatest left slice (Err (Truncated seen)) after bytes rest =
    (after ≡ 0) × (left ≡ 0 → 0 < seen) × (length bytes ≡ seen) × IsCutInBlock most greatest left bytes × (rest ≡ [])
ReadsInBlock most greatest left slice (Err BlockDescriptor) after bytes rest =
    (after ≡ 0) × (left ≡ 0) × ((head : List ℕ) × (length head ≡ 4) × (is_no_block most head ≡ true) × (bytes ≡ head ++ rest))
ReadsInBlock most greatest left slice (Err PastBlock) after bytes rest =
    (after ≡ 0) × ((room : ℕ) × (lead part : List ℕ) × Leads most left room lead × (bytes ≡ lead ++ part) × PassesBlock greatest room part rest)
ReadsInBlock most greatest left slice (Err Descriptor) after bytes rest = (after ≡ 0) × RefusesInBlock most greatest left Descriptor bytes rest
ReadsInBlock most greatest left slice (Err Spanned) after bytes rest = (after ≡ 0) × RefusesInBlock most greatest left Spanned bytes rest
ReadsInBlock most greatest left slice (Err Length) after bytes rest = (after ≡ 0) × RefusesInBlock most greatest left Length bytes rest
ReadsInBlock most greatest left slice (Err ReadFailed) after bytes rest =
    (after ≡ 0) × ((read : List ℕ) × (bytes ≡ read ++ rest) × IsCutInBlock most greatest left read)
ReadsInBlock most greatest left slice (Err (WriteFailed taken)) after bytes rest = ⊥
ReadsInBlock most greatest left slice (Err (TookNothing taken)) after bytes rest = ⊥

-- ---- in two steps

-- what the answer to a call that opens the next block says: how many bytes its frames have
abbrev pub OpensBlock : ℕ → Result (Option ℕ) RecordFault → List ℕ → List ℕ → Type 0
OpensBlock most (Ok None) bytes rest = (bytes ≡ []) × (rest ≡ [])
OpensBlock most (Ok (Some room)) bytes rest = (4 ≤ room) × (4 + room ≤ most) × (bytes ≡ descriptor room ++ rest)
OpensBlock most (Err (Truncated seen)) bytes rest = (0 < seen) × (seen < 4) × (length bytes ≡ seen) × (rest ≡ [])
OpensBlock most (Err BlockDescriptor) bytes rest = (head : List ℕ) × (length head ≡ 4) × (is_no_block most head ≡ true) × (bytes ≡ head ++ rest)
OpensBlock most (Err ReadFailed) bytes rest = (read : List ℕ) × (length read < 4) × (bytes ≡ read ++ rest)
OpensBlock most (Err _) bytes rest = ⊥

-- a refused descriptor of a record stands first, and nothing past it was read
abbrev pub RefusesFrame : (greatest room : ℕ) → RecordFault → List ℕ → List ℕ → Type 0
RefusesFrame greatest room fault bytes rest =
    (head : List ℕ) × (4 ≤ room) × (length head ≡ 4) × (refusal greatest head ≡ Some fault) × (bytes ≡ head ++ rest)

-- what the answer to a call that reads the next frame of a block says, which still holds so many bytes
abbrev pub ReadsFrame : (greatest room : ℕ) → List ℕ → Result ℕ RecordFault → List ℕ → List ℕ → Type 0
ReadsFrame greatest room slice (Ok count) bytes rest =
    (count ≤ length slice) × IsRecord Variable greatest (take count slice) × (bytes ≡ framed Variable (take count slice) ++ rest) × (4 + count ≤ room)
ReadsFrame greatest room slice (Err (Truncated seen)) bytes rest = (4 ≤ room) × (length bytes ≡ seen) × IsCutFrame greatest room bytes × (rest ≡ [])
ReadsFrame greatest room slice (Err PastBlock) bytes rest = PassesBlock greatest room bytes rest
ReadsFrame greatest room slice (Err Descriptor) bytes rest = RefusesFrame greatest room Descriptor bytes rest
ReadsFrame greatest room slice (Err Spanned) bytes rest = RefusesFrame greatest room Spanned bytes rest
ReadsFrame greatest room slice (Err Length) bytes rest = RefusesFrame greatest room Length bytes rest
ReadsFrame greatest room slice (Err ReadFailed) bytes rest = (4 ≤ room) × ((read : List ℕ) × (bytes ≡ read ++ rest) × IsCutFrame greatest room read)
ReadsFrame greatest room slice (Err (WriteFailed taken)) bytes rest = ⊥
ReadsFrame greatest room slice (Err (TookNothing taken)) bytes rest = ⊥
ReadsFrame greatest room slice (Err BlockDescriptor) bytes rest = ⊥

-- the answer is that a read failed
abbrev pub failed_read : {A : Type 0} → Result A RecordFault → Bool
failed_read (Err ReadFailed) = true
failed_read _ = false

-- a fault of the first frame of a block: what F1 counts has the block's descriptor
abbrev pub behind_block : RecordFault → RecordFault
behind_block (Truncated seen) = Truncated (4 + seen)
behind_block fault = fault

-- what F1 counts
abbrev pub IfTruncated : RecordFault → (ℕ → Type 0) → Type 0
IfTruncated (Truncated seen) P = P seen
IfTruncated _ P = Unit {0}
