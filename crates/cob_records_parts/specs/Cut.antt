-- Pieces of a stream of records: where it may be cut, and what is told of each.
use Rattle.std.specs.Prelude.{◌≡◌, ℕ, ◌+◌, ◌^◌, ◌<◌, ⊤, Bool, false, List, [], ◌∷◌, length, Option, Err, Result}
use Rattle.std.specs.List.{AllByRecursion}
use Rattle.cob_records.specs.Blocks.{joined}
use Rattle.cob_records.specs.Device.{Told}
use Rattle.cob_records.specs.Forms.{Come, ReadsInForm}
use Rattle.cob_records.specs.Frame.{IsRecord, is_read_failure}
use Rattle.cob_records.specs.declared.records.Form.{Form}
use Rattle.cob_records.specs.declared.records.RecordFault.{RecordFault}
use Rattle.cob_records_parts.specs.declared.piece.Piece.{Piece}
use Rattle.cob_records_parts.specs.declared.piece.PiecesFault.{PiecesFault}
use Rattle.cob_records_parts.specs.declared.piece.PiecesFault.TheVariants.{Frame, Limit, Memory}

-- Whole frames of so many records, one behind another; in form b whole blocks.
pub record AreWhole (form : Form) (greatest count : ℕ) (bytes : List ℕ) : Type 0 where
  pub bodies : List (List ℕ)
  pub each : AllByRecursion (IsRecord form greatest) bodies
  pub come : Come form 0 bodies bytes 0 []
  pub many : length bodies ≡ count

-- Bytes in front of others are whole frames of so many records; in front of none they may be any.
abbrev pub AreWholeBefore : Form → (greatest count : ℕ) → List ℕ → List (List ℕ) → Type 0
AreWholeBefore form greatest count part [] = ⊤
AreWholeBefore form greatest count part (next ∷ parts) = AreWhole form greatest count part

-- Pieces tell these parts of a stream, which stand behind so many bytes of it, the first with the record of this number: where each begins, how many
-- bytes it has, and the number of its first record. None is empty, and each but the last is whole frames.
abbrev pub AreTold : Form → (greatest offset number : ℕ) → List (List ℕ) → List Piece → Type 0
AreTold form greatest offset number [] [] = ⊤
AreTold form greatest offset number (part ∷ parts) (piece ∷ pieces) =
    (piece.offset ≡ offset) × (piece.bytes ≡ length part) × (piece.first ≡ number) × (0 < length part)
    × ((count : ℕ) × AreWholeBefore form greatest count part parts × AreTold form greatest (offset + length part) (number + count) parts pieces)
AreTold form greatest offset number _ _ = ⊥

-- Bytes behind so many of a stream are cut in pieces, the first of which begins with the record of this number.
abbrev pub AreCutFrom : Form → (greatest offset number : ℕ) → List ℕ → List Piece → Type 0
AreCutFrom form greatest offset number bytes pieces = (parts : List (List ℕ)) × (joined parts ≡ bytes) × AreTold form greatest offset number parts pieces

-- A stream is cut in pieces: one behind another they are its bytes, none is empty, and each but the last is whole frames; and of each it is told
-- behind how many bytes it begins, how many it has, and the number of its first record.
abbrev pub AreCut : Form → (greatest : ℕ) → List ℕ → List Piece → Type 0
AreCut form greatest bytes pieces = AreCutFrom form greatest 0 1 bytes pieces

-- Records came whole, and the frame of the next one, which has this number, can't be read.
pub record StopsCut (form : Form) (greatest number : ℕ) (fault : RecordFault) (bytes rest : List ℕ) : Type 0 where
  pub bodies : List (List ℕ)
  pub opened : ℕ
  pub left : List ℕ
  pub slice : List ℕ
  pub after : ℕ
  pub each : AllByRecursion (IsRecord form greatest) bodies
  pub come : Come form 0 bodies bytes opened left
  pub next : number ≡ length bodies + 1
  pub reads : ReadsInForm form greatest opened slice (Err fault) after left rest

-- how many records a stream may have that is cut
abbrev pub most_records_cut : ℕ
most_records_cut = 2 ^ 48

-- so many records came whole as a stream may have at most
pub record IsFull (form : Form) (greatest : ℕ) (bytes rest : List ℕ) : Type 0 where
  pub bodies : List (List ℕ)
  pub opened : ℕ
  pub each : AllByRecursion (IsRecord form greatest) bodies
  pub come : Come form 0 bodies bytes opened rest
  pub many : length bodies ≡ most_records_cut

-- All bytes of a stream were read, and it is cut in these pieces.
abbrev pub IsAllCut : Form → (greatest : ℕ) → List Piece → List ℕ → List ℕ → Type 0
IsAllCut form greatest pieces bytes rest = AreCut form greatest bytes pieces × (rest ≡ [])

-- Why a stream that told this before and tells that now is not cut: the frame of a record can't be read, it has too many records, or memory was
-- refused.
abbrev pub IsUncut : Form → (greatest : ℕ) → PiecesFault → Option (List ℕ) → Option (List ℕ) → Type 0
IsUncut form greatest (Frame number fault) before now = Told before now (StopsCut form greatest number fault)
IsUncut form greatest Limit before now = Told before now (IsFull form greatest)
IsUncut form greatest Memory before now = ⊤

-- the answer is that a read failed
abbrev pub is_failed_cut : {A : Type 0} → Result A PiecesFault → Bool
is_failed_cut (Err (Frame number fault)) = is_read_failure (Err fault)
is_failed_cut _ = false

-- what is true of a frame that can't be read, where that is the fault
abbrev pub IfFrame : PiecesFault → (RecordFault → Type 0) → Type 0
IfFrame (Frame number fault) P = P fault
IfFrame _ P = ⊤
