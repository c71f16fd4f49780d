-- What single moves that were made ready make of the output record's storage.
use Rattle.std.specs.Prelude.{◌≡◌, ℕ, ◌+◌, ◌≤◌, false, true, List, length, Ok, Option, Some}
use Rattle.cob_copybook_tree.specs.declared.node.Kind.{Kind}
use Rattle.cob_copybook_entry.specs.Described.{PlainValue}
use Rattle.cob_layout.specs.declared.fields.Place.{Place}
use Rattle.cob_layout.specs.Fields.{with_field}
use Rattle.cob_layout.specs.Storage.{greatest_length}
use Rattle.cob_move_data.specs.declared.operands.Side.{Side}
use Rattle.cob_move_data.specs.declared.operands.Side.TheVariants.{In, Out}
use Rattle.cob_move_data.specs.Moves.{Records, operand_in, record_of}
use Rattle.cob_move_steps.specs.Pictured.{IsPicturedStep}
use Rattle.cob_move_steps.specs.Pool.{IsMoveStep, MoveKinds}
use Rattle.cob_move_steps.specs.declared.constant_step.ConstantStep.{ConstantStep}
use Rattle.cob_move_steps.specs.declared.pictured.PicturedSteps.{PicturedSteps}
use Rattle.cob_move_steps.specs.declared.pool.MoveSteps.{MoveSteps}
use Rattle.cob_move_receive.specs.Received.{Received}
use Rattle.cob_move_receive.specs.Sent as sent
use Rattle.cob_move_receive.specs.Sent.{Occupies}
use Rattle.cob_move_apply.specs.Applied.{Ending, storage_of}
use Rattle.cob_move_apply.specs.Located.{Located}
use Rattle.cob_move_apply.specs.Steps.{IsConstantAt}
use Rattle.cob_move_apply.specs.Written.{HasPlaces, IsReceivedFrom, IsReceivedPicturedFrom, received_at}
use Rattle.cob_move_apply.specs.declared.step.ConstantMove.{ConstantMove}
use Rattle.cob_move_apply.specs.declared.step.LocatedConstant.{LocatedConstant}
use Rattle.cob_move_apply.specs.declared.step.LocatedMove.{LocatedMove}
use Rattle.cob_move_apply.specs.declared.step.MovePlaces.{MovePlaces}
use Rattle.cob_move_apply.specs.declared.step.PicturedMove.{PicturedMove}
use Rattle.cob_move_apply.specs.declared.step.PreparedMove.{PreparedMove}

-- Between whatever kinds its step, one of these, moves, a move that was made ready, from a place of the record of a side that has these bytes, ends with what
-- the receiver gets, or at the sender.
abbrev pub IsMadeReady : Side → PreparedMove → MoveSteps → (source before : List ℕ) → Ending → Type 0
IsMadeReady side p steps source before end =
    (k : MoveKinds) → IsMoveStep steps k p.step → HasPlaces p.places k
    → (outcome : Option (List ℕ)) × IsReceivedFrom p.places k source outcome × (end ≡ received_at side p.places before outcome)

-- The same, where the sender is read as its picture says.
abbrev pub IsMadePictured : PicturedMove → PicturedSteps → (input before : List ℕ) → Ending → Type 0
IsMadePictured p steps input before end =
    (k : MoveKinds) → IsPicturedStep steps k p.step → HasPlaces p.places k
    → (outcome : Option (List ℕ)) × IsReceivedPicturedFrom p.places k input outcome × (end ≡ received_at In p.places before outcome)

-- Whatever the constant, a move of one that was made ready ends with what the receiver gets.
abbrev pub IsMadeConstant : ConstantMove → List ConstantStep → (before after : List ℕ) → Type 0
IsMadeConstant c steps before after =
    (constant : PlainValue) (to : Kind) → IsConstantAt steps c constant to
    → (written : List ℕ) × Received (sent.Literal constant) to c.to.length (Some written) × (after ≡ with_field before c.to written)

-- The sender and the receiver of a move stand there: within the storage of the record of a side and the output record's, with all their bytes.
pub record StandAt (side : Side) (r : Records) (one : LocatedMove) (input before : List ℕ) (p : MovePlaces) : Type 0 where
  pub sends : Located side (record_of r side) false (operand_in (record_of r side) one.sent) (storage_of side input before) (Ok p.from)
  pub reads : p.from.offset + p.from.length ≤ length (storage_of side input before)
  pub sent : Occupies (operand_in (record_of r side) one.sent).kind p.from.length
  pub receives : Located Out r.output true (operand_in r.output one.receiver) before (Ok p.to)
  pub within : p.to.offset + p.to.length ≤ greatest_length r.output
  pub received : Occupies (operand_in r.output one.receiver).kind p.to.length

-- The receiver of a constant stands there: within the output record's storage, with all its bytes.
pub record ReceivesAt (r : Records) (one : LocatedConstant) (before : List ℕ) (to : Place) : Type 0 where
  pub receives : Located Out r.output true (operand_in r.output one.receiver) before (Ok to)
  pub within : to.offset + to.length ≤ greatest_length r.output
  pub received : Occupies (operand_in r.output one.receiver).kind to.length
