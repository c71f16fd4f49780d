-- Steps: what is carried out in the place of moves.
use Rattle.std.specs.Prelude.{◌≡◌, ◌⊎◌, ℕ, ◌+◌, ◌<◌, ◌≤◌, Bool, false, true, List, [], ◌∷◌, ◌++◌, length, get_or, map, take, drop}
use Rattle.cob_codec.specs.declared.reading.Reading.{Reading}
use Rattle.cob_codec.specs.declared.reading.Reading.TheVariants.{AnyZones, Pictured, Whole, WholeAnyZones}
use Rattle.cob_copybook_tree.specs.declared.node.Kind.{Kind}
use Rattle.cob_copybook_entry.specs.Described.{PlainValue}
use Rattle.cob_move_data.specs.declared.operands.Side.{Side}
use Rattle.cob_move_data.specs.declared.operands.Side.TheVariants.{In, Out}
use Rattle.cob_move_data.specs.declared.operands.Operand.{Operand}
use Rattle.cob_move_data.specs.declared.operands.Move as code_move
use Rattle.cob_move_data.specs.declared.operands.NumberedPair.{NumberedPair}
use Rattle.cob_move_data.specs.declared.operands.PairMoves.{PairMoves}
use Rattle.cob_move_data.specs.declared.operands.StatementMoves.{StatementMoves}
use Rattle.cob_move_data.specs.declared.operands.StatementMoves.TheVariants.{Single, Pairs}
use Rattle.cob_move_data.specs.Moves.{Move, Records, Sender, Entry, Literal, numbered_move_by, operand_in, record_of, sender_by}
use Rattle.cob_layout_places.specs.declared.reference.Ref.{Ref}
use Rattle.cob_move_apply.specs.Cut.{LeaveSender}
use Rattle.cob_move_apply.specs.Placed.{IsPlaced, IsPlacedMove}
use Rattle.cob_move_apply.specs.Written.{AreCopied, IsFixedConstant, IsFixedMove}
use Rattle.cob_move_receive.specs.Sent.{Occupies}
use Rattle.cob_move_steps.specs.Pictured.{IsPicturedStep, KeepsPictured}
use Rattle.cob_move_steps.specs.Copies.{IsConstantStep, gives_bytes, stands_right}
use Rattle.cob_move_steps.specs.Pool.{IsMoveStep, IsStepAt, KeepsSteps, MoveKinds}
use Rattle.cob_move_steps.specs.declared.constant_step.ConstantStep.{ConstantStep}
use Rattle.cob_move_steps.specs.declared.pictured.PicturedStep.{PicturedStep}
use Rattle.cob_move_steps.specs.declared.pictured.PicturedSteps.{PicturedSteps}
use Rattle.cob_move_steps.specs.declared.pool.MoveStep.{MoveStep}
use Rattle.cob_move_steps.specs.declared.pool.MoveStep.TheVariants as move_step
use Rattle.cob_move_steps.specs.declared.pool.MoveSteps.{MoveSteps}
use Rattle.cob_move_apply.specs.declared.basis.Basis.{Basis}
use Rattle.cob_move_apply.specs.declared.step.ConstantMove.{ConstantMove}
use Rattle.cob_move_apply.specs.declared.step.LocatedConstant.{LocatedConstant}
use Rattle.cob_move_apply.specs.declared.step.LocatedMove.{LocatedMove}
use Rattle.cob_move_apply.specs.declared.step.LocatedStep.{LocatedStep}
use Rattle.cob_move_apply.specs.declared.step.LocatedStep.TheVariants as located_step
use Rattle.cob_move_apply.specs.declared.step.MovePlaces.{MovePlaces}
use Rattle.cob_move_apply.specs.declared.step.NumberedMove.{NumberedMove}
use Rattle.cob_move_apply.specs.declared.step.Part.{Part}
use Rattle.cob_move_apply.specs.declared.step.PicturedMove.{PicturedMove}
use Rattle.cob_move_apply.specs.declared.step.Plan.{Plan}
use Rattle.cob_move_apply.specs.declared.step.PreparedMove.{PreparedMove}
use Rattle.cob_move_apply.specs.declared.step.Step.{Step}
use Rattle.cob_move_apply.specs.declared.step.Step.TheVariants as step

-- a sender with one receiver
abbrev pub alone : Sender → Operand → Move
alone s o = record { sender = s; receivers = o ∷ [] }

-- the move of an entry of the record of a side to one of the output record
abbrev pub copied_move : Side → Reading → Records → Ref → Ref → Move
copied_move side reading r sent receiver = alone (Entry side reading (operand_in (record_of r side) sent)) (operand_in r.output receiver)

-- the move of a constant to an entry of the output record
abbrev pub constant_move : Records → PlainValue → Ref → Move
constant_move r constant receiver = alone (Literal constant) (operand_in r.output receiver)

-- the pair of two groups with this number
abbrev pub pair_at : PairMoves → ℕ → NumberedPair
pair_at g number = get_or g.pairs.items number (record { from = 0; to = 0 })

-- a move with so many of its receivers, behind those that are left out
abbrev pub with_some : Reading → Records → code_move.Move → (first count : ℕ) → Move
with_some reading r m first count =
    record { sender = sender_by reading r m.sender; receivers = map (operand_in r.output) (take count (drop first m.receivers.items)) }

-- the move that a part of a statement's moves is: one with some of the receivers, or that of one pair
abbrev pub part_of : Reading → Records → StatementMoves → (first count : ℕ) → Move
part_of reading r (Single m) first count = with_some reading r m first count
part_of reading r (Pairs g) first count = numbered_move_by reading r g (pair_at g first)

-- a statement's moves have this part
abbrev pub HasPart : StatementMoves → (first count : ℕ) → Type 0
HasPart (Single m) first count = first + count ≤ length m.receivers.items
HasPart (Pairs g) first count = (first < length g.pairs.items) × (count ≡ 1)

-- the bases of a move's operands stand at the front of these
abbrev pub BeginsWith : Records → Move → List Basis → Type 0
BeginsWith r m bs = (own behind : List Basis) × (bs ≡ own ++ behind) × IsPlacedMove r m own

-- a part of the moves of a statement is this move, and the bases of its operands begin where it says
pub record IsMoveOfPart (reading : Reading) (r : Records) (given : List StatementMoves) (bases : List Basis) (p : Part) (m : Move) : Type 0 where
  pub statement : StatementMoves
  pub below : p.statement < length given
  pub at : statement ≡ get_or given p.statement statement
  pub has : HasPart statement p.first p.count
  pub is : m ≡ part_of reading r statement p.first p.count
  pub within : p.base ≤ length bases
  pub placed : BeginsWith r m (drop p.base bases)

-- what steps rest on: the bases of the operands of parts, and the single moves that were made ready, whatever the reading or as pictures say, and the
-- constants, and those that were made ready wherever their items stand, of entries and of constants, and those of entries of the output record
pub record Support : Type 0 where
  pub bases : List Basis
  pub prepared : MoveSteps
  pub pictured : PicturedSteps
  pub constants : List ConstantStep
  pub located : List LocatedMove
  pub located_constants : List LocatedConstant
  pub within : List LocatedMove

-- what the steps of a plan rest on
abbrev pub support_of : Plan → Support
support_of plan = record { bases = plan.bases.items; prepared = plan.prepared; pictured = plan.pictured; constants = plan.constants.items; located = plan.located.items; located_constants = plan.located_constants.items; within = plan.within.items }

-- these are a single move of an entry of the record of a side that was made ready so, by one of these steps
abbrev pub IsPreparedMove : Side → Reading → Records → MoveSteps → PreparedMove → List Move → Type 0
IsPreparedMove side reading r steps p own = (k : MoveKinds) × IsMoveStep steps k p.step × IsFixedMove side reading r p.places k own

-- these, their sender read as its picture says, are a single move that was made ready so, by one of these steps
abbrev pub IsPicturedMove : Records → PicturedSteps → PicturedMove → List Move → Type 0
IsPicturedMove r steps p own = (k : MoveKinds) × IsPicturedStep steps k p.step × IsFixedMove In Pictured r p.places k own

-- a move is a part of a statement's moves, and where senders are read as their pictures say it was made ready so
abbrev pub IsPicturedPart : Reading → Records → List StatementMoves → List Basis → PicturedSteps → PicturedMove → Part → Move → Type 0
IsPicturedPart reading r given bases steps q p m = IsMoveOfPart reading r given bases p m × (reading ≡ Pictured → IsPicturedMove r steps q (m ∷ []))

-- what writes the constants of moves has the one that is meant at the number of a move that was made ready, for all bytes of its receiver
abbrev pub IsConstantAt : List ConstantStep → ConstantMove → PlainValue → Kind → Type 0
IsConstantAt steps c constant to = IsStepAt ConstantStep (λ step. IsConstantStep constant to c.to.length step) steps c.number

-- these are a single move of a constant that was made ready so, by one of these
abbrev pub IsConstantMove : Records → List ConstantStep → ConstantMove → List Move → Type 0
IsConstantMove r steps c own = (constant : PlainValue) × (to : Kind) × IsConstantAt steps c constant to × IsFixedConstant r c.to constant to own

-- the step, one of these, carries moves between entries of these two kinds out, whatever places they fill
abbrev pub CarriesAnywhere : MoveSteps → (sender receiver : Kind) → MoveStep → Type 0
CarriesAnywhere steps sender receiver s = (sent received : ℕ) → Occupies sender sent → Occupies receiver received
    → IsMoveStep steps (record { sender = sender; sent = sent; receiver = receiver; received = received }) s

-- so does this one, where senders are read as their pictures say
abbrev pub CarriesPictured : PicturedSteps → (sender receiver : Kind) → PicturedStep → Type 0
CarriesPictured steps sender receiver s = (sent received : ℕ) → Occupies sender sent → Occupies receiver received
    → IsPicturedStep steps (record { sender = sender; sent = sent; receiver = receiver; received = received }) s

-- the sender gives its bytes as characters, which the receiver takes without insertions, from the right where this says so
abbrev pub GivesText : (sender receiver : Kind) → Bool → Type 0
GivesText sender receiver right = (gives_bytes sender receiver ≡ true) × (right ≡ stands_right sender receiver)

-- so does this one, as characters, or whatever the reading or as pictures say; the rule of MOVE itself carries out the moves between any
abbrev pub CarriesLocated : MoveSteps → PicturedSteps → (sender receiver : Kind) → LocatedStep → Type 0
CarriesLocated steps pictured sender receiver (located_step.Characters right) = GivesText sender receiver right
CarriesLocated steps pictured sender receiver (located_step.Always s) = CarriesAnywhere steps sender receiver s
CarriesLocated steps pictured sender receiver (located_step.Pictured s) = CarriesPictured pictured sender receiver s
CarriesLocated steps pictured sender receiver located_step.Rule = Unit {0}

-- the step carries its moves out where senders are read so
abbrev pub serves : LocatedStep → Reading → Bool
serves (located_step.Characters right) reading = true
serves (located_step.Always s) reading = true
serves (located_step.Pictured s) Pictured = true
serves (located_step.Pictured s) Whole = false
serves (located_step.Pictured s) AnyZones = false
serves (located_step.Pictured s) WholeAnyZones = false
serves located_step.Rule reading = true

-- a move of an entry of the record of a side was made ready so: what is noted of either place is what this may rest on, and the step, one of these, carries the
-- move out wherever they stand
pub record IsReadyAnywhere (side : Side) (r : Records) (steps : MoveSteps) (pictured : PicturedSteps) (p : LocatedMove) : Type 0 where
  pub sends : IsPlaced (record_of r side) false (operand_in (record_of r side) p.sent) p.from
  pub receives : IsPlaced r.output true (operand_in r.output p.receiver) p.to
  pub carries : CarriesLocated steps pictured (operand_in (record_of r side) p.sent).kind (operand_in r.output p.receiver).kind p.step

-- these are the single move with this number among some that were made ready wherever their items stand, by one of these steps
abbrev pub IsLocatedMove : Side → Reading → Records → MoveSteps → PicturedSteps → List LocatedMove → ℕ → List Move → Type 0
IsLocatedMove side reading r steps pictured located number own =
    IsStepAt LocatedMove (λ p. IsReadyAnywhere side r steps pictured p × (own ≡ copied_move side reading r p.sent p.receiver ∷ [])) located number

-- the step writes the constant to such a receiver, whatever place it fills
abbrev pub WritesFor : PlainValue → Kind → ConstantStep → Type 0
WritesFor constant to step = (size : ℕ) → Occupies to size → IsConstantStep constant to size step

-- what writes the constants of moves has one that does so at this number
abbrev pub WritesAnywhere : List ConstantStep → ℕ → PlainValue → Kind → Type 0
WritesAnywhere steps number constant to = IsStepAt ConstantStep (WritesFor constant to) steps number

-- the move of a constant was made ready so: what is noted of its receiver's place is what this may rest on, and one of these writes it wherever that stands
pub record IsReadyConstant (r : Records) (steps : List ConstantStep) (constant : PlainValue) (p : LocatedConstant) : Type 0 where
  pub receives : IsPlaced r.output true (operand_in r.output p.receiver) p.to
  pub writes : WritesAnywhere steps p.number constant (operand_in r.output p.receiver).kind

-- a move is one of a constant that was made ready so
abbrev pub IsOfConstant : Records → List ConstantStep → List Move → LocatedConstant → Type 0
IsOfConstant r steps own p = (constant : PlainValue) × IsReadyConstant r steps constant p × (own ≡ constant_move r constant p.receiver ∷ [])

-- these are the single move of a constant with this number among some that were made ready wherever their receivers stand, written by one of these
abbrev pub IsLocatedConstant : Records → List ConstantStep → List LocatedConstant → ℕ → List Move → Type 0
IsLocatedConstant r steps located number own = IsStepAt LocatedConstant (IsOfConstant r steps own) located number

-- the bytes of the sender end before those of the receiver begin
abbrev pub StandsBefore : MovePlaces → Type 0
StandsBefore p = p.from.offset + p.from.length ≤ p.to.offset

-- the move that the step of this number, of a kind, carries out
abbrev pub numbered_step : (ℕ → MoveStep) → NumberedMove → PreparedMove
numbered_step kind p = record { places = p.places; step = kind p.number }

-- a step stands for these moves: for one part, for a single move that was made ready, of one of the kinds that have a step of their own or of another kind,
-- whatever the reading or as pictures say, or of a constant, or wherever its items stand, of an entry or of a constant, or for those that are a copy, or for a
-- single move within the output record that was made ready, between fixed places, the sender's before the receiver's where the step says so, or wherever these are
abbrev pub IsStep : Reading → Records → List StatementMoves → Support → Step → List Move → Type 0
IsStep reading r given on (step.Part p) own = (m : Move) × (own ≡ m ∷ []) × IsMoveOfPart reading r given on.bases p m
IsStep reading r given on (step.Number p) own = IsPreparedMove In reading r on.prepared (numbered_step move_step.Number p) own
IsStep reading r given on (step.Wide p) own = IsPreparedMove In reading r on.prepared (numbered_step move_step.Wide p) own
IsStep reading r given on (step.AnyNumber p) own = IsPreparedMove In reading r on.prepared (numbered_step move_step.AnyNumber p) own
IsStep reading r given on (step.Edited p) own = IsPreparedMove In reading r on.prepared (numbered_step move_step.Edited p) own
IsStep reading r given on (step.Characters p) own = IsPreparedMove In reading r on.prepared (record { places = p.places; step = move_step.Characters p.step }) own
IsStep reading r given on (step.Prepared p) own = IsPreparedMove In reading r on.prepared p own
IsStep reading r given on (step.Pictured q p) own = (m : Move) × (own ≡ m ∷ []) × IsPicturedPart reading r given on.bases on.pictured q p m
IsStep reading r given on (step.Constant c) own = IsConstantMove r on.constants c own
IsStep reading r given on (step.Located number) own = IsLocatedMove In reading r on.prepared on.pictured on.located number own
IsStep reading r given on (step.LocatedConstant number) own = IsLocatedConstant r on.constants on.located_constants number own
IsStep reading r given on (step.Copy places) own = AreCopied r places.from places.to own
IsStep reading r given on (step.Within p) own = IsPreparedMove Out reading r on.prepared p own
IsStep reading r given on (step.WithinNumber p) own = IsPreparedMove Out reading r on.prepared (numbered_step move_step.Number p) own × StandsBefore p.places
IsStep reading r given on (step.WithinEdited p) own = IsPreparedMove Out reading r on.prepared (numbered_step move_step.Edited p) own × StandsBefore p.places
IsStep reading r given on (step.LocatedWithin number) own = IsLocatedMove Out reading r on.prepared on.pictured on.within number own

-- the step stands for what a single move stands for that was made ready
abbrev pub StandsForPrepared : PreparedMove → Step → Type 0
StandsForPrepared p s = (reading : Reading) (r : Records) (given : List StatementMoves) (on : Support) (own : List Move)
    → IsPreparedMove In reading r on.prepared p own → IsStep reading r given on s own

-- so it does for one within the output record
abbrev pub StandsForWithin : PreparedMove → Step → Type 0
StandsForWithin p s = (reading : Reading) (r : Records) (given : List StatementMoves) (on : Support) (own : List Move)
    → IsPreparedMove Out reading r on.prepared p own → IsStep reading r given on s own

-- steps stand for these moves, one step's behind another's
abbrev pub AreSteps : Reading → Records → List StatementMoves → Support → List Step → List Move → Type 0
AreSteps reading r given on [] parts = parts ≡ []
AreSteps reading r given on (s ∷ ss) parts =
    (own rest : List Move) × (parts ≡ own ++ rest) × IsStep reading r given on s own × AreSteps reading r given on ss rest

-- moves of one sender to these receivers together, in their order
abbrev pub AreReceived : Sender → List Move → List Operand → Type 0
AreReceived s [] os = os ≡ []
AreReceived s (p ∷ ps) os = (p.sender ≡ s) × ((rest : List Operand) × (os ≡ p.receivers ++ rest) × AreReceived s ps rest)

-- a sender with each of some receivers by itself
abbrev pub singles : Sender → List Operand → List Move
singles s os = map (alone s) os

-- the single moves of a move
abbrev pub one_by_one : Move → List Move
one_by_one m = singles m.sender m.receivers

-- what is sent is the same before and behind a receiver: an entry of the input record, or a constant
abbrev pub SendsTheSame : Sender → Type 0
SendsTheSame (Entry In reading o) = Unit {0}
SendsTheSame (Entry Out reading o) = ⊥
SendsTheSame (Literal c) = Unit {0}

-- A move may be carried out as its single moves: what it sends is the same before and behind each receiver, it has one, or they leave what it sends.
abbrev pub MayBeCut : Records → Sender → List Operand → Type 0
MayBeCut r s os = SendsTheSame s ⊎ ((length os ≡ 1) ⊎ LeaveSender r s os)

-- A move is cut into these: it is one, or what it sends is the same before and behind each receiver; or they are its single moves, and leave what it sends.
abbrev pub IsMoveCut : Records → Move → List Move → Type 0
IsMoveCut r m [] = ⊥
IsMoveCut r m (p ∷ ps) = ((p ≡ m) × (ps ≡ []))
    ⊎ ((SendsTheSame m.sender × AreReceived m.sender (p ∷ ps) m.receivers) ⊎ (LeaveSender r m.sender m.receivers × (p ∷ ps ≡ one_by_one m)))

-- moves are cut into these, one move's behind another's
abbrev pub AreMovesCut : Records → List Move → List Move → Type 0
AreMovesCut r [] parts = parts ≡ []
AreMovesCut r (m ∷ ms) parts = (own rest : List Move) × (parts ≡ own ++ rest) × IsMoveCut r m own × AreMovesCut r ms rest

-- Steps stand for moves: for those into which these are cut.
abbrev pub StandFor : Reading → Records → List StatementMoves → List Step → Support → List Move → Type 0
StandFor reading r given steps on ms = (parts : List Move) × AreSteps reading r given on steps parts × AreMovesCut r ms parts

-- a list became another, with more behind what it had
abbrev pub IsLonger : (T : Type 0) → (before now : List T) → Type 0
IsLonger T before now = (own : List T) × (now ≡ before ++ own)

-- what steps rest on became more: all that was there is still there, under the same number
pub record Grows (before now : Support) : Type 0 where
  pub more : List Basis
  pub bases : now.bases ≡ before.bases ++ more
  pub prepared : KeepsSteps before.prepared now.prepared
  pub pictured : KeepsPictured before.pictured now.pictured
  pub constants : IsLonger ConstantStep before.constants now.constants
  pub located : IsLonger LocatedMove before.located now.located
  pub located_constants : IsLonger LocatedConstant before.located_constants now.located_constants
  pub within : IsLonger LocatedMove before.within now.within

-- a plan became another, with steps for these moves behind those before; what its steps rest on became more
abbrev pub Gains : Reading → Records → List StatementMoves → List Move → (before now : Plan) → Type 0
Gains reading r given own before now =
    Grows (support_of before) (support_of now)
    × ((parts : List Move) → AreSteps reading r given (support_of before) before.steps.items parts
    → AreSteps reading r given (support_of now) now.steps.items (parts ++ own))

-- a plan became another, with steps for what these moves are cut into behind those before
abbrev pub GainsCut : Reading → Records → List StatementMoves → List Move → (before now : Plan) → Type 0
GainsCut reading r given ms before now = (own : List Move) × AreMovesCut r ms own × Gains reading r given own before now
