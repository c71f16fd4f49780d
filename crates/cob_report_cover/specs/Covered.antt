-- Which bytes of the output record receivers cover, and which bytes of the input record senders take.
use Rattle.std.specs.Prelude.{◌≡◌, ◌<◌, ℕ, Bool, true, false, List, get_or, length}
use Rattle.std.specs.Bool.{Decides}
use Rattle.cob_layout_places.specs.Cover.{holds}
use Rattle.cob_layout.specs.declared.fields.Place.{Place}
use Rattle.cob_move_apply.specs.Some.{SomeOf}
use Rattle.cob_back_moves.specs.Brought.{moves_between}
use Rattle.cob_back_moves.specs.declared.some.MovesBetween.{MovesBetween}
use Rattle.cob_report_cover.specs.Gathered.{HasPlaceWhere, received_in, sent_in}

-- the byte at this offset is one of the place
abbrev pub has_offset : ℕ → Place → Bool
has_offset o p = holds o p.offset p.length

-- the same as a fact
abbrev pub HasOffset : ℕ → Place → Type 0
HasOffset o p = has_offset o p ≡ true

-- The byte of the output record is covered: some single move has a receiver whose place has it.
abbrev pub IsByteCovered : MovesBetween → ℕ → Type 0
IsByteCovered m o = SomeOf (HasPlaceWhere m.layouts.output.now (HasOffset o)) (received_in (moves_between m.layouts m.statements.now))

-- The byte of the input record is taken: some single move has a sender whose place has it.
abbrev pub IsByteTaken : MovesBetween → ℕ → Type 0
IsByteTaken m o = SomeOf (HasPlaceWhere m.layouts.input.now (HasOffset o)) (sent_in (moves_between m.layouts m.statements.now))

-- each of these says of the byte at its place whether this holds of it
abbrev pub AreMarks : (ℕ → Type 0) → List Bool → Type 0
AreMarks P marks = (o : ℕ) → o < length marks → Decides (get_or marks o false) (P o)
