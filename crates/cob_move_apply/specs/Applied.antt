-- What moves make of the output record's storage, one after another, and where they stop.
use Rattle.std.specs.Prelude.{◌≡◌, ◌⊎◌, ℕ, List, [], ◌∷◌, Option, Some, None, true, false, Ok, Err, Result}
use Rattle.cob_codec.specs.declared.reading.Reading.{Reading}
use Rattle.cob_copybook_tree.specs.Forests.{Forest}
use Rattle.cob_copybook_tree.specs.Nodes.{Resolved}
use Rattle.cob_layout.specs.declared.fields.Place.{Place}
use Rattle.cob_layout.specs.Fields.{field_of, with_field}
use Rattle.cob_move_data.specs.declared.operands.Side.{Side}
use Rattle.cob_move_data.specs.declared.operands.Side.TheVariants.{In, Out}
use Rattle.cob_move_data.specs.declared.operands.Operand.{Operand}
use Rattle.cob_move_data.specs.Moves.{Sender, Entry, Literal, Move, Records, record_of}
use Rattle.cob_move_receive.specs.Sent.{Sent}
use Rattle.cob_move_receive.specs.Sent as sent
use Rattle.cob_move_receive.specs.Received.{Received}
use Rattle.cob_move_apply.specs.declared.stop.Stop.{Stop}
use Rattle.cob_move_apply.specs.declared.stop.StopCause.TheVariants.{NoValue}
use Rattle.cob_move_apply.specs.Located.{Located, stop_at}

-- what a sender gives to each of its receivers, and where it lies
pub record Content : Type 0 where
  pub sent : Sent
  pub side : Side
  pub offset : ℕ

-- the content of an entry that stands there, read so
abbrev pub content_at : Side → Reading → Operand → List ℕ → Place → Content
content_at side reading o bytes p = record { sent = sent.Entry o.kind (field_of p bytes) reading; side = side; offset = p.offset }

-- an entry gives the bytes of its place, or stops where it has none
abbrev pub EntryGives : Side → Reading → Forest Resolved → Operand → List ℕ → Result Content Stop → Type 0
EntryGives side reading tree o bytes (Ok content) =
    (p : Place) × Located side tree false o bytes (Ok p) × (content ≡ content_at side reading o bytes p)
EntryGives side reading tree o bytes (Err stop) = Located side tree false o bytes (Err stop)

-- the storage of a side
abbrev pub storage_of : Side → List ℕ → List ℕ → List ℕ
storage_of In input output = input
storage_of Out input output = output

-- what a sender gives as its move begins, or the first thing missing
abbrev pub Gives : Records → Sender → List ℕ → List ℕ → Result Content Stop → Type 0
Gives r (Entry side reading o) input output g = EntryGives side reading (record_of r side) o (storage_of side input output) g
Gives r (Literal c) input output g = g ≡ Ok (record { sent = sent.Literal c; side = Out; offset = 0 })

-- A receiver gets it: at its place in the output record's storage as it then is, the bytes become what it receives, and all others stay. First
-- its counts may be missing, then its element, then a value of the sender, which stops at the sender.
abbrev pub Gets : Forest Resolved → Content → Operand → List ℕ → Result (List ℕ) Stop → Type 0
Gets tree content o before (Ok after) =
    (p : Place) × (bytes : List ℕ) × Located Out tree true o before (Ok p)
    × Received content.sent o.kind p.length (Some bytes) × (after ≡ with_field before p bytes)
Gets tree content o before (Err stop) =
    Located Out tree true o before (Err stop)
    ⊎ ((p : Place) × Located Out tree true o before (Ok p)
    × Received content.sent o.kind p.length None × (stop ≡ stop_at content.side content.offset NoValue))

-- how moves end: with a stop or none, and with the storage that they leave
pub record Ending : Type 0 where
  pub stop : Option Stop
  pub storage : List ℕ

-- all is done
abbrev pub done : List ℕ → Ending
done storage = record { stop = None; storage = storage }

-- something is missing
abbrev pub stopped : Stop → List ℕ → Ending
stopped stop storage = record { stop = Some stop; storage = storage }

-- each receiver gets it in turn, up to the first that stops
abbrev pub AllGet : Forest Resolved → Content → List Operand → List ℕ → Ending → Type 0
AllGet tree content [] before end = end ≡ done before
AllGet tree content (o ∷ os) before end =
    ((after : List ℕ) × Gets tree content o before (Ok after) × AllGet tree content os after end)
    ⊎ ((stop : Stop) × Gets tree content o before (Err stop) × (end ≡ stopped stop before))

-- one move: what the sender gives is taken once, before the first receiver, and then each receiver gets it
abbrev pub IsMoved : Records → Move → List ℕ → List ℕ → Ending → Type 0
IsMoved r m input before end =
    ((content : Content) × Gives r m.sender input before (Ok content) × AllGet r.output content m.receivers before end)
    ⊎ ((stop : Stop) × Gives r m.sender input before (Err stop) × (end ≡ stopped stop before))

-- The moves of a record in order, up to the first that stops.
abbrev pub Applied : Records → List Move → List ℕ → List ℕ → Ending → Type 0
Applied r [] input before end = end ≡ done before
Applied r (m ∷ ms) input before end =
    ((after : List ℕ) × IsMoved r m input before (done after) × Applied r ms input after end)
    ⊎ ((stop : Stop) × (after : List ℕ) × IsMoved r m input before (stopped stop after) × (end ≡ stopped stop after))

-- the ending that an answer tells
abbrev pub ending : {A : Type 0} → Result A Stop → List ℕ → Ending
ending (Ok a) storage = done storage
ending (Err stop) storage = stopped stop storage

-- moves end in one way
abbrev pub OneEnding : Type 0
OneEnding = (r : Records) (ms : List Move) (input before : List ℕ) (a b : Ending)
    → Applied r ms input before a → Applied r ms input before b → a ≡ b
