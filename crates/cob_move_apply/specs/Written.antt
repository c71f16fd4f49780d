-- What moves write at a place that is the same in every storage, and how a single move between two such places ends.
use Rattle.std.specs.Prelude.{◌≡◌, ℕ, ◌+◌, ◌≤◌, Bool, true, false, List, [], ◌∷◌, ◌++◌, length, Option, Some, None}
use Rattle.cob_codec.specs.Readings.{KeepsZones}
use Rattle.cob_codec.specs.declared.reading.Reading.{Reading}
use Rattle.cob_codec.specs.declared.reading.Reading.TheVariants.{Pictured}
use Rattle.cob_copybook_tree.specs.declared.node.Kind.{Kind}
use Rattle.cob_copybook_tree.specs.Forests.{Forest}
use Rattle.cob_copybook_tree.specs.Nodes.{Resolved}
use Rattle.cob_copybook_entry.specs.Described.{PlainValue}
use Rattle.cob_layout.specs.declared.fields.Place.{Place}
use Rattle.cob_layout.specs.Fields.{field_of, with_field}
use Rattle.cob_layout.specs.Kept.{AreKeptOf}
use Rattle.cob_layout.specs.declared.counts.StoredCount.{StoredCount}
use Rattle.cob_layout.specs.Storage.{greatest_length, IsStorage}
use Rattle.cob_move_data.specs.declared.operands.Side.{Side}
use Rattle.cob_move_data.specs.Moves.{Move, Records}
use Rattle.cob_move_steps.specs.Pool.{MoveKinds}
use Rattle.cob_move_receive.specs.Received.{Received}
use Rattle.cob_move_receive.specs.Sent as sent
use Rattle.cob_move_apply.specs.Applied.{Applied, Ending, done, stopped, storage_of}
use Rattle.cob_move_apply.specs.InPlace.{AppliedInPlace}
use Rattle.cob_move_apply.specs.Located.{stop_at}
use Rattle.cob_move_apply.specs.Met.{HaveMet}
use Rattle.cob_move_apply.specs.Spent.{PlaceMet}
use Rattle.cob_move_apply.specs.declared.step.MovePlaces.{MovePlaces}
use Rattle.cob_move_apply.specs.declared.stop.StopCause.TheVariants.{NoValue}

-- Whatever bytes come to this place, the counts that are kept of a storage stay its own.
abbrev pub LeavesCounts : Forest Resolved → Place → Type 0
LeavesCounts tree p = (ks : List (Option StoredCount)) (before field : List ℕ) → p.offset + p.length ≤ length before → length field ≡ p.length
    → AreKeptOf tree before ks → AreKeptOf tree (with_field before p field) ks

-- Moves write bytes at a place of the output record, which follow from the input alone: no other byte changes, and no count.
pub record AreWritten (r : Records) (to : Place) (bytes : List ℕ → List ℕ) (ms : List Move) : Type 0 where
  pub within : to.offset + to.length ≤ greatest_length r.output
  pub leaves : LeavesCounts r.output to
  pub long : (input : List ℕ) → IsStorage r.input input → length (bytes input) ≡ to.length
  pub written : (input before : List ℕ) → IsStorage r.input input → length before ≡ greatest_length r.output
      → AppliedInPlace r ms input before (done (with_field before to (bytes input)))

-- Moves of entries of the input record are a copy of bytes: of all that they send, to all that receives.
pub record AreCopied (r : Records) (from to : Place) (ms : List Move) : Type 0 where
  pub same : from.length ≡ to.length
  pub reads : (input : List ℕ) → IsStorage r.input input → from.offset + from.length ≤ length input
  pub are : AreWritten r to (field_of from) ms

-- the place of both, where the second begins where the first ends
pub record IsBoth (front next both : Place) : Type 0 where
  pub meets : next.offset ≡ front.offset + front.length
  pub offset : both.offset ≡ front.offset
  pub length : both.length ≡ front.length + next.length

-- How a single move from a place of the record of a side to one of the output record ends: the receiver's bytes stand in their place, or the sender has no
-- value, and the move stops there.
abbrev pub received_at : Side → MovePlaces → List ℕ → Option (List ℕ) → Ending
received_at side p before (Some bytes) = done (with_field before p.to bytes)
received_at side p before None = stopped (stop_at side p.from.offset NoValue) before

-- how it ends by whether the sender has a value, with the storage that it leaves
abbrev pub ended : Side → MovePlaces → Bool → List ℕ → Ending
ended side p true after = done after
ended side p false after = stopped (stop_at side p.from.offset NoValue) after

-- these kinds have as many bytes as the places
pub record HasPlaces (p : MovePlaces) (k : MoveKinds) : Type 0 where
  pub sent : k.sent ≡ p.from.length
  pub received : k.received ≡ p.to.length

-- what the receiver holds after the move from a place of this storage, or none, whatever the reading
abbrev pub IsReceivedFrom : MovePlaces → MoveKinds → List ℕ → Option (List ℕ) → Type 0
IsReceivedFrom p k source outcome = (reading : Reading) → KeepsZones reading → Received (sent.Entry k.sender (field_of p.from source) reading) k.receiver k.received outcome

-- what the receiver holds after the move of the sender, read as its picture says, or none
abbrev pub IsReceivedPicturedFrom : MovePlaces → MoveKinds → List ℕ → Option (List ℕ) → Type 0
IsReceivedPicturedFrom p k source outcome = Received (sent.Entry k.sender (field_of p.from source) Pictured) k.receiver k.received outcome

-- The place lies within the storage of the record of a side, whatever bytes that has.
abbrev pub LiesInRecord : Side → Records → Place → Type 0
LiesInRecord side r p = (input before : List ℕ) → IsStorage r.input input → length before ≡ greatest_length r.output
    → p.offset + p.length ≤ length (storage_of side input before)

-- Moves are the single move of an entry of the record of a side to one of the output record, each of which stands at its place in every storage. The sender's
-- bytes are those before the move; where the receiver's place meets the item of a count, the receiver does.
pub record IsFixedMove (side : Side) (reading : Reading) (r : Records) (p : MovePlaces) (k : MoveKinds) (ms : List Move) : Type 0 where
  pub single : (m : Move) × (ms ≡ m ∷ [])
  pub places : HasPlaces p k
  pub reads : LiesInRecord side r p.from
  pub within : p.to.offset + p.to.length ≤ greatest_length r.output
  pub ends : (input before : List ℕ) (outcome : Option (List ℕ)) → IsStorage r.input input → length before ≡ greatest_length r.output
      → Received (sent.Entry k.sender (field_of p.from (storage_of side input before)) reading) k.receiver k.received outcome
      → Applied r ms input before (received_at side p before outcome)
  pub meets : (input before bytes : List ℕ) (met rest : ℕ) (others : List Move)
      → Received (sent.Entry k.sender (field_of p.from (storage_of side input before)) reading) k.receiver k.received (Some bytes)
      → PlaceMet r.output before p.to met → HaveMet r others input (with_field before p.to bytes) rest → HaveMet r (ms ++ others) input before (met + rest)

-- Moves are the single move of a constant to an entry of the output record that stands at its place in every storage; where the place meets the item
-- of a count, its receiver does.
pub record IsFixedConstant (r : Records) (to : Place) (constant : PlainValue) (k : Kind) (ms : List Move) : Type 0 where
  pub single : (m : Move) × (ms ≡ m ∷ [])
  pub within : to.offset + to.length ≤ greatest_length r.output
  pub ends : (input before written : List ℕ) → Received (sent.Literal constant) k to.length (Some written) → Applied r ms input before (done (with_field before to written))
  pub meets : (input before written : List ℕ) (met rest : ℕ) (others : List Move) → Received (sent.Literal constant) k to.length (Some written)
      → PlaceMet r.output before to met → HaveMet r others input (with_field before to written) rest → HaveMet r (ms ++ others) input before (met + rest)
