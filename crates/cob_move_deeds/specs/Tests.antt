-- Tests between moves: whether the number of a loop's counter is past what an item holds, and whether a condition holds.
use Rattle.std.specs.Prelude.{◌≡◌, ◌⊎◌, ℕ, Bool, true, false, List, nat_lt, pos, Ok, Err, Result}
use Rattle.cob_picture.specs.Counts.{scale}
use Rattle.cob_copybook_tree.specs.declared.node.Item.{Item}
use Rattle.cob_copybook_tree.specs.declared.node.Kind.{Kind}
use Rattle.cob_copybook_tree.specs.declared.node.Kind.TheVariants.{Item as ItemKind}
use Rattle.cob_copybook_tree.specs.Items.{IsNumberItem}
use Rattle.cob_copybook_tree.specs.Forests.{Forest}
use Rattle.cob_copybook_tree.specs.Nodes.{Resolved}
use Rattle.cob_layout.specs.declared.fields.Place.{Place}
use Rattle.cob_layout_places.specs.declared.counts.CountFault.{CountFault}
use Rattle.cob_layout_places.specs.declared.places.Found.{Found}
use Rattle.cob_move_data.specs.declared.operands.Operand.{Operand}
use Rattle.cob_move_data.specs.declared.operands.Side.{Side}
use Rattle.cob_layout_places.specs.declared.varying.Table.{Table}
use Rattle.cob_layout_places.specs.Counts.{SaysOfTable}
use Rattle.cob_move_data.specs.Moves.{Records, Sender, operand_in, record_of}
use Rattle.cob_move_receive.specs.Sent.{Sent}
use Rattle.cob_move_condition.specs.Conditions.{Condition}
use Rattle.cob_move_condition.specs.Says.{Says}
use Rattle.cob_move_apply.specs.declared.stop.Stop.{Stop}
use Rattle.cob_move_apply.specs.declared.stop.StopCause.TheVariants.{Count, NoValue}
use Rattle.cob_move_apply.specs.Applied.{Content, Gives, storage_of}
use Rattle.cob_move_apply.specs.Located.{Located, stop_at}
use Rattle.cob_move_apply.specs.Entries.{IsPlacedEntry}
use Rattle.cob_move_deeds.specs.declared.flow.Bound.{Bound}

-- the counter's number, the greatest number that the bound may be, and the item that holds the bound
pub record Past : Type 0 where
  pub number : ℕ
  pub most : ℕ
  pub side : Side
  pub bound : Operand

-- the test whether this number is past the bound
abbrev pub past_bound : Records → Bound → ℕ → Past
past_bound r b number = record { number = number; most = b.most; side = b.item.side; bound = operand_in (record_of r b.item.side) b.item.entry }

-- a table that occurs up to so often
abbrev pub up_to : ℕ → Table
up_to most = record { number = 0; least = 0; most = most; count = 0 }

-- the element that stands there
abbrev pub there : Place → Found
there p = record { offset = p.offset; length = p.length; within = true }

-- the item is a number without a fraction, as a table's count is
pub record IsBoundItem (kind : Kind) (i : Item) : Type 0 where
  pub is : kind ≡ ItemKind i
  pub number : IsNumberItem i
  pub whole : scale i.picture.positions ≡ pos 0

-- the bound is an entry of its record, ready to be read, and such an item
pub record IsBound (r : Records) (b : Bound) : Type 0 where
  pub placed : IsPlacedEntry r b.item
  pub item : (i : Item) × IsBoundItem (operand_in (record_of r b.item.side) b.item.entry).kind i

-- what the bytes of the bound say: its number, which the counter is past or not; or it gives none from 0 to the greatest
abbrev pub SaysOfBound : Past → Item → Place → List ℕ → Result Bool Stop → Type 0
SaysOfBound t i p bytes (Ok b) = (v : ℕ) × SaysOfTable i (up_to t.most) (there p) bytes (Ok v) × (b ≡ nat_lt v t.number)
SaysOfBound t i p bytes (Err stop) = (e : CountFault) × SaysOfTable i (up_to t.most) (there p) bytes (Err e) × (stop ≡ stop_at t.side e.offset Count)

-- What a test says of the two storages. The bound stands where the counts that it needs put it; the first of these that isn't valid stops, and then a
-- subscript past its table's count. Then its bytes say whether the counter is past it.
abbrev pub JudgedIn : Forest Resolved → Past → List ℕ → Result Bool Stop → Type 0
JudgedIn tree t bytes answer =
    ((stop : Stop) × Located t.side tree false t.bound bytes (Err stop) × (answer ≡ Err stop))
    ⊎ ((p : Place) × (i : Item) × Located t.side tree false t.bound bytes (Ok p) × (t.bound.kind ≡ ItemKind i) × SaysOfBound t i p bytes answer)

-- what it says of the storages of two records
abbrev pub JudgedPast : Records → Past → List ℕ → List ℕ → Result Bool Stop → Type 0
JudgedPast r t input output answer = JudgedIn (record_of r t.side) t (storage_of t.side input output) answer

-- the bound of a test gives this number in the storages of two records
abbrev pub BoundGives : Records → Past → List ℕ → List ℕ → ℕ → Type 0
BoundGives r t input output v =
    (p : Place) × (i : Item) × Located t.side (record_of r t.side) false t.bound (storage_of t.side input output) (Ok p) × (t.bound.kind ≡ ItemKind i)
    × SaysOfTable i (up_to t.most) (there p) (storage_of t.side input output) (Ok v)

-- the same test with another number of the counter
abbrev pub with_number : Past → ℕ → Past
with_number t i = record { number = i; most = t.most; side = t.side; bound = t.bound }

-- what the bytes of the bound give: its number; or the stop of the test
abbrev pub BoundSaysAt : Past → Item → Place → List ℕ → Result ℕ Stop → Type 0
BoundSaysAt t i p bytes (Ok v) = SaysOfTable i (up_to t.most) (there p) bytes (Ok v)
BoundSaysAt t i p bytes (Err stop) = SaysOfBound t i p bytes (Err stop)

-- what the record of a bound that stands there says of it
abbrev pub BoundSaysIn : Past → Place → List ℕ → Result ℕ Stop → Type 0
BoundSaysIn t p bytes answer = (i : Item) × (t.bound.kind ≡ ItemKind i) × BoundSaysAt t i p bytes answer

-- what reading the bound of a test says: the number that it gives; or the stop of the test, whatever the counter's number
abbrev pub BoundSays : Records → Past → List ℕ → List ℕ → Result ℕ Stop → Type 0
BoundSays r t input output (Ok v) = BoundGives r t input output v
BoundSays r t input output (Err stop) = JudgedPast r t input output (Err stop)

-- ---- conditions

-- what a sender gives in the storages of two records, or the first thing missing
abbrev pub GivesIn : Records → (input output : List ℕ) → Sender → Result Sent Stop → Type 0
GivesIn r input output s (Ok sent) = (content : Content) × Gives r s input output (Ok content) × (sent ≡ content.sent)
GivesIn r input output s (Err stop) = Gives r s input output (Err stop)

-- the stop of a sender whose bytes represent no value: it stands where they lie
abbrev pub LacksIn : Records → (input output : List ℕ) → Sender → Stop → Type 0
LacksIn r input output s stop = (content : Content) × Gives r s input output (Ok content) × (stop ≡ stop_at content.side content.offset NoValue)

-- ---- both

-- A test: whether the counter of a loop is past its bound, which ends the loop; or whether a condition holds.
pub data Test : Type 0 where
  Until : Past → Test
  Holds : Condition → Test

-- what a test says of the storages of two records
abbrev pub Judged : Records → Test → List ℕ → List ℕ → Result Bool Stop → Type 0
Judged r (Until t) input output answer = JudgedPast r t input output answer
Judged r (Holds c) input output answer = Says (GivesIn r input output) (LacksIn r input output) c answer
