-- Places of the occurrences that moves send and receive.
use Rattle.std.specs.Prelude.{◌≡◌, Bool, true, List, [], ◌∷◌, ◌++◌, map}
use Rattle.std.specs.List.{flat_map}
use Rattle.cob_copybook_tree.specs.Forests.{Forest}
use Rattle.cob_copybook_tree.specs.Nodes.{Resolved}
use Rattle.cob_layout_places.specs.Cover.{Occurrence}
use Rattle.cob_move_data.specs.Moves.{Entry, Literal, Move, Sender}
use Rattle.cob_move_data.specs.declared.operands.Side.TheVariants.{In, Out}
use Rattle.cob_layout.specs.declared.fields.Place.{Place}
use Rattle.cob_move_apply.specs.Some.{SomeOf}
use Rattle.cob_move_data.specs.Singles.{PlainSent, occurrence_of}
use Rattle.cob_move_data.specs.Singles as sent
use Rattle.cob_back_losses.specs.Moved.{StandsAt}

-- it stands at a place of which this holds
pub record HasPlaceWhere (tree : Forest Resolved) (Q : Place → Type 0) (x : Occurrence) : Type 0 where
  pub place : Place
  pub stands : StandsAt tree x place
  pub so : Q place

-- a place passes a test
abbrev pub IsPassed : (Place → Bool) → Place → Type 0
IsPassed test p = test p ≡ true

-- These are the places of the occurrences: a test that one of the places passes is passed where one of the occurrences stands, and the other way round.
abbrev pub Gathers : Forest Resolved → List Place → List Occurrence → Type 0
Gathers tree ps xs = (test : Place → Bool) → (SomeOf (IsPassed test) ps → SomeOf (HasPlaceWhere tree (IsPassed test)) xs)
    × (SomeOf (HasPlaceWhere tree (IsPassed test)) xs → SomeOf (IsPassed test) ps)

-- the places of further occurrences came to those of the ones before
abbrev pub Joins : Forest Resolved → List Place → List Place → List Occurrence → Type 0
Joins tree old now xs = (before : List Occurrence) → Gathers tree old before → Gathers tree now (before ++ xs)

-- the occurrences of the output record that a move's receivers are
abbrev pub receivers_of : Move → List Occurrence
receivers_of m = map occurrence_of m.receivers

-- the occurrence of an entry of the input record that a sender is, if it is one
abbrev pub input_of : Sender → List Occurrence
input_of (Entry In reading o) = occurrence_of o ∷ []
input_of (Entry Out reading o) = []
input_of (Literal c) = []

-- what is sent of the input record, if it is an occurrence of its entries
abbrev pub input_occurrence : PlainSent → List Occurrence
input_occurrence (sent.Entry In x) = x ∷ []
input_occurrence (sent.Entry Out x) = []
input_occurrence (sent.Literal c) = []

-- the occurrences that receive in moves
abbrev pub received_in : List Move → List Occurrence
received_in ms = flat_map receivers_of ms

-- the occurrences of the input record that are sent in moves
abbrev pub sent_in : List Move → List Occurrence
sent_in ms = flat_map (λ m. input_of m.sender) ms
