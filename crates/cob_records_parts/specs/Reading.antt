-- What comes next of a stream that is cut: a whole frame, or its last bytes.
use Rattle.std.specs.Prelude.{◌≡◌, ◌⊎◌, ℕ, ◌+◌, ◌-◌, ◌<◌, ◌==◌, Bool, false, if◌then◌else◌, List, [], ◌∷◌, ◌++◌, length, Ok, Err, Result}
use Rattle.cob_records.specs.Forms.{ComesFirst, ReadsInForm}
use Rattle.cob_records.specs.Frame.{IsRecord, is_read_failure}
use Rattle.cob_records.specs.declared.records.Form.{Form}
use Rattle.cob_records.specs.declared.records.Form.TheVariants.{Fixed, Variable, Blocked}
use Rattle.cob_records.specs.declared.records.RecordFault.{RecordFault}
use Rattle.cob_records_parts.specs.declared.piece.Piece.{Piece}
use Rattle.cob_records_parts.specs.declared.piece.Start.{Start}
use Rattle.cob_records_parts.specs.declared.stream.Next.{Next}
use Rattle.cob_records_parts.specs.declared.stream.Next.TheVariants.{Whole, Last}

-- how many bytes the frame of a record of n bytes has, with the descriptor of its block where it is the first in it
abbrev pub size_behind : Form → (left n : ℕ) → ℕ
size_behind Fixed left n = n
size_behind Variable left n = 4 + n
size_behind (Blocked most) left n = (if left == 0 then 4 else 0) + (4 + n)

-- a whole frame of so many bytes came, and just this was read
pub record ComesFrame (form : Form) (greatest left size after : ℕ) (bytes rest : List ℕ) : Type 0 where
  pub body : List ℕ
  pub frame : List ℕ
  pub is : IsRecord form greatest body
  pub first : ComesFirst form left body frame after []
  pub all : bytes ≡ frame ++ rest
  pub long : length frame ≡ size

-- What comes next: a whole frame; or less than one, or nothing, up to the end; or a frame that can't be read.
abbrev pub Finds : Form → (greatest left : ℕ) → Result Next RecordFault → ℕ → List ℕ → List ℕ → Type 0
Finds form greatest left (Ok (Whole size)) after bytes rest = ComesFrame form greatest left size after bytes rest
Finds form greatest left (Ok (Last size)) after bytes rest = (length bytes ≡ size) × (rest ≡ [])
Finds form greatest left (Err fault) after bytes rest = (slice : List ℕ) × ReadsInForm form greatest left slice (Err fault) after bytes rest

-- the piece that begins here and ends before so many bytes
abbrev pub piece_to : Start → ℕ → Piece
piece_to start end = record { offset = start.offset; bytes = end - start.offset; first = start.first }

-- The open piece is closed here, where no block is open and it isn't empty, and the next one is opened; or all is as it was.
abbrev pub ClosesPiece : (left : ℕ) → List Piece → Start → Start → List Piece → Start → Type 0
ClosesPiece left pieces start here after now =
    ((after ≡ pieces) × (now ≡ start))
    ⊎ ((left ≡ 0) × (start.offset < here.offset) × (after ≡ pieces ++ piece_to start here.offset ∷ []) × (now ≡ here))

-- The pieces are those before and the last one, which begins here and ends before so many bytes; or those before, where it is empty.
abbrev pub EndsPieces : List Piece → Start → ℕ → List Piece → Type 0
EndsPieces pieces start end all = ((start.offset < end) × (all ≡ pieces ++ piece_to start end ∷ [])) ⊎ ((end ≡ start.offset) × (all ≡ pieces))

-- how many bytes come next
abbrev pub next_size : Next → ℕ
next_size (Whole size) = size
next_size (Last size) = size

-- a read failed
abbrev pub is_failed_next : Result Next RecordFault → Bool
is_failed_next (Ok next) = false
is_failed_next (Err fault) = is_read_failure (Err fault)
