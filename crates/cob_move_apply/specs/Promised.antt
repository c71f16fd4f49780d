-- What is promised of moves by what carries them out: whichever moves a step of a plan means between two layouts.
use Rattle.std.specs.Prelude.{ℕ, List, [], ◌∷◌, Result}
use Rattle.cob_copybook_entry.specs.Described.{PlainValue}
use Rattle.cob_move_data.specs.declared.operands.NumberedPair.{NumberedPair}
use Rattle.cob_move_data.specs.declared.operands.PairMoves.{PairMoves}
use Rattle.cob_move_data.specs.declared.operands.Sender as code_sender
use Rattle.cob_move_data.specs.declared.operands.Side.{Side}
use Rattle.cob_move_data.specs.declared.operands.Side.TheVariants.{In, Out}
use Rattle.cob_move_data.specs.declared.operands.StatementMoves.{StatementMoves}
use Rattle.cob_move_data.specs.Moves.{Entry, Move, Sender, moves_by, numbered_move_by, operand_in, sender_by}
use Rattle.cob_move_steps.specs.declared.pool.MoveStep.{MoveStep}
use Rattle.cob_move_apply.specs.Applied.{Applied, Ending, IsMoved}
use Rattle.cob_move_apply.specs.Going.{Left, SpentSteps}
use Rattle.cob_move_apply.specs.Seen.{entry_sent, operand_of, receivers_in}
use Rattle.cob_move_apply.specs.Spent.{HaveSpent, IsSpent, MovesSpend}
use Rattle.cob_move_apply.specs.Steps.{IsLocatedConstant, IsLocatedMove, IsMoveOfPart, IsPicturedPart, IsPreparedMove, IsStep, StandFor, WritesAnywhere, constant_move, copied_move, support_of}
use Rattle.cob_move_apply.specs.Surveyed.{records}
use Rattle.cob_move_apply.specs.declared.basis.Basis.{Basis}
use Rattle.cob_move_apply.specs.declared.basis.PlacedOperand.{PlacedOperand}
use Rattle.cob_move_apply.specs.declared.basis.PlacedReceivers.{PlacedReceivers}
use Rattle.cob_move_apply.specs.declared.basis.SentEntry.{SentEntry}
use Rattle.cob_move_apply.specs.declared.layouts.Layouts.{Layouts}
use Rattle.cob_move_apply.specs.declared.step.LocatedConstant.{LocatedConstant}
use Rattle.cob_move_apply.specs.declared.step.LocatedMove.{LocatedMove}
use Rattle.cob_move_apply.specs.declared.step.MovePlaces.{MovePlaces}
use Rattle.cob_move_apply.specs.declared.step.Part.{Part}
use Rattle.cob_move_apply.specs.declared.step.PicturedMove.{PicturedMove}
use Rattle.cob_move_apply.specs.declared.step.Plan.{Plan}
use Rattle.cob_move_apply.specs.declared.step.Step.{Step}
use Rattle.cob_move_apply.specs.declared.stop.Stop.{Stop}
use Rattle.cob_move_apply.specs.declared.survey.Survey.{Survey}
use Rattle.cob_move_apply.specs.declared.workspace.Workspace.{Workspace}

-- ---- one move between the records of two layouts

-- a sender with receivers of the output record
abbrev pub sent_to : Layouts → Sender → PlacedReceivers → Move
sent_to l s receivers = record { sender = s; receivers = receivers_in l.output.now receivers }

-- an operand of the record of a side with receivers
abbrev pub operand_move : Side → Layouts → PlacedOperand → PlacedReceivers → Move
operand_move side l sender receivers = sent_to l (Entry side l.reading (operand_of sender)) receivers

-- an entry of one of the records with receivers
abbrev pub entry_move : Layouts → SentEntry → PlacedReceivers → Move
entry_move l sent receivers = sent_to l (entry_sent l.reading (records l) sent) receivers

-- what a statement sends with receivers
abbrev pub sender_move : Layouts → code_sender.Sender → PlacedReceivers → Move
sender_move l given receivers = sent_to l (sender_by l.reading (records l) given) receivers

-- the move of one pair of two groups
abbrev pub move_of_pair : Layouts → PairMoves → NumberedPair → Move
move_of_pair l group pair = numbered_move_by l.reading (records l) group pair

-- the single move of an entry of the record of a side that was made ready wherever its items stand
abbrev pub located_move : Side → Layouts → LocatedMove → Move
located_move side l one = copied_move side l.reading (records l) one.sent one.receiver

-- all moves of statements
abbrev pub all_moves : Layouts → List StatementMoves → List Move
all_moves l given = moves_by l.reading (records l) given

-- ---- what is meant between the records of two layouts

-- a part of statements means this move
abbrev pub PartMeans : List StatementMoves → List Basis → Part → Layouts → Move → Type 0
PartMeans given bases part l m = IsMoveOfPart l.reading (records l) given bases part m

-- a part of statements means this move, which was made ready where senders are read as their pictures say
abbrev pub PicturedMeans : List StatementMoves → Plan → PicturedMove → Part → Layouts → Move → Type 0
PicturedMeans given plan one part l m = IsPicturedPart l.reading (records l) given plan.bases.items plan.pictured one part m

-- a single move of an entry of the record of a side that was made ready between these places, which this step carries out, means these
abbrev pub PreparedMeans : Side → Plan → MovePlaces → MoveStep → Layouts → List Move → Type 0
PreparedMeans side plan places step l own = IsPreparedMove side l.reading (records l) plan.prepared (record { places = places; step = step }) own

-- the single move with this number that was made ready wherever its items stand means these
abbrev pub LocatedMeans : Plan → ℕ → Layouts → List Move → Type 0
LocatedMeans plan number l own = IsLocatedMove In l.reading (records l) plan.prepared plan.pictured plan.located.items number own

-- so does that of an entry of the output record
abbrev pub LocatedWithinMeans : Plan → ℕ → Layouts → List Move → Type 0
LocatedWithinMeans plan number l own = IsLocatedMove Out l.reading (records l) plan.prepared plan.pictured plan.within.items number own

-- so does that of a constant
abbrev pub LocatedConstantMeans : Plan → ℕ → Layouts → List Move → Type 0
LocatedConstantMeans plan number l own = IsLocatedConstant (records l) plan.constants.items plan.located_constants.items number own

-- a step of a plan means these
abbrev pub StepMeans : List StatementMoves → Plan → Step → Layouts → List Move → Type 0
StepMeans given plan step l own = IsStep l.reading (records l) given (support_of plan) step own

-- a plan writes the constant wherever its receiver stands
abbrev pub WritesConstant : Plan → LocatedConstant → Layouts → PlainValue → Type 0
WritesConstant plan one l constant = WritesAnywhere plan.constants.items one.number constant (operand_in l.output.now one.receiver).kind

-- the steps of a plan stand for all moves of statements
abbrev pub IsPlanOf : List StatementMoves → Plan → Layouts → Type 0
IsPlanOf given plan l = StandFor l.reading (records l) given plan.steps.items (support_of plan) (all_moves l given)

-- ---- what whichever moves are meant come to

-- each that may be meant ends so
abbrev pub AnyMoveEnds : (Layouts → Move → Type 0) → Layouts → (input before : List ℕ) → Ending → Type 0
AnyMoveEnds P l input before end = (m : Move) → P l m → IsMoved (records l) m input before end

-- so do moves, one behind another
abbrev pub AnyEnd : (Layouts → List Move → Type 0) → Layouts → (input before : List ℕ) → Ending → Type 0
AnyEnd P l input before end = (own : List Move) → P l own → Applied (records l) own input before end

-- what the reads of one move are
abbrev pub MoveSpends : {A : Type 0} → Layouts → Move → (input before : List ℕ) → Result A Stop → List ℕ → (old new : Workspace) → Type 0
MoveSpends l m input before result after old new = MovesSpend (records l) (m ∷ []) input before result after old.output new.output

-- so are those of each that may be meant
abbrev pub AnyMoveSpends : {A : Type 0} → (Layouts → Move → Type 0) → Layouts → (input before : List ℕ) → Result A Stop → List ℕ → (old new : Workspace) → Type 0
AnyMoveSpends P l input before result after old new = (m : Move) → P l m → MoveSpends l m input before result after old new

-- so are those of moves, one behind another
abbrev pub AnySpend : {A : Type 0} → (Layouts → List Move → Type 0) → Layouts → (input before : List ℕ) → Result A Stop → List ℕ → (old new : Workspace) → Type 0
AnySpend P l input before result after old new =
    (own : List Move) → P l own → MovesSpend (records l) own input before result after old.output new.output

-- the same of moves that all went well
abbrev pub AnyHaveSpent : (Layouts → List Move → Type 0) → Layouts → (input before after : List ℕ) → (old new : Workspace) → Type 0
AnyHaveSpent P l input before after old new =
    (own : List Move) → P l own → HaveSpent (records l) own input before after old.output new.output

-- the same of one move, seen from when nothing was spent yet
abbrev pub MoveHasSpent : Layouts → Move → (input before after : List ℕ) → (old new : Workspace) → Type 0
MoveHasSpent l m input before after old new = (first : Survey) → IsSpent l.output.now 0 first old.output
    → HaveSpent (records l) (m ∷ []) input before after first new.output

-- whatever part of statements a single move was made ready for, where senders are read as their pictures say, it ends so
abbrev pub PicturedEnds : Plan → PicturedMove → Layouts → (input before : List ℕ) → Ending → Type 0
PicturedEnds plan one l input before end = (given : List StatementMoves) (part : Part) → AnyMoveEnds (PicturedMeans given plan one part) l input before end

-- it went well, and these are its reads
abbrev pub PicturedHasSpent : Plan → PicturedMove → Layouts → (input before after : List ℕ) → (old new : Workspace) → Type 0
PicturedHasSpent plan one l input before after old new = (given : List StatementMoves) (part : Part) (m : Move)
    → PicturedMeans given plan one part l m → HaveSpent (records l) (m ∷ []) input before after old.output new.output

-- whatever constant a plan writes wherever its receiver stands, the move of it ends so
abbrev pub ConstantEnds : Plan → LocatedConstant → Layouts → (input before : List ℕ) → Ending → Type 0
ConstantEnds plan one l input before end = (constant : PlainValue) → WritesConstant plan one l constant
    → IsMoved (records l) (constant_move (records l) constant one.receiver) input before end

-- it went well, and these are its reads
abbrev pub ConstantHasSpent : Plan → LocatedConstant → Layouts → (input before after : List ℕ) → (old new : Workspace) → Type 0
ConstantHasSpent plan one l input before after old new = (constant : PlainValue) → WritesConstant plan one l constant
    → MoveHasSpent l (constant_move (records l) constant one.receiver) input before after old new

-- whatever the statements, the moves that a step means end so
abbrev pub StepEnds : Plan → Step → Layouts → (input before : List ℕ) → Ending → Type 0
StepEnds plan step l input before end = (given : List StatementMoves) → AnyEnd (StepMeans given plan step) l input before end

-- they went well, and these are their reads
abbrev pub StepHasSpent : Plan → Step → Layouts → (input before after : List ℕ) → (old new : Workspace) → Type 0
StepHasSpent plan step l input before after old new =
    (given : List StatementMoves) → AnyHaveSpent (StepMeans given plan step) l input before after old new

-- ---- what is left of steps

-- some steps of a plan stand for these moves
abbrev pub StepsMean : List StatementMoves → Plan → List Step → Layouts → List Move → Type 0
StepsMean given plan steps l ms = StandFor l.reading (records l) given steps (support_of plan) ms

-- these are what is left of the steps for some moves, whatever the storage was before
abbrev pub AreLeft : Plan → List Step → Layouts → (input now : List ℕ) → Type 0
AreLeft plan steps l input now = (given : List StatementMoves) × (ms : List Move) × (before : List ℕ)
    × Left l.reading (records l) given ms steps (support_of plan) 0 input before now

-- where some steps were left, the rest of them is
abbrev pub LeavesRest : Plan → (steps rest : List Step) → Layouts → (input old new : List ℕ) → Type 0
LeavesRest plan steps rest l input old new = (given : List StatementMoves) (ms : List Move) (before : List ℕ)
    → Left l.reading (records l) given ms steps (support_of plan) 0 input before old
    → Left l.reading (records l) given ms rest (support_of plan) 0 input before new

-- where these are the reads before some steps that were left, these are those before the rest of them
abbrev pub RestSpends : Plan → (steps rest : List Step) → Layouts → (input old new : List ℕ) → (read reads : Workspace) → Type 0
RestSpends plan steps rest l input old new read reads = (given : List StatementMoves) (ms : List Move) (before : List ℕ) (first : Survey)
    → SpentSteps l.reading (records l) given ms steps (support_of plan) 0 input before old first read.output
    → SpentSteps l.reading (records l) given ms rest (support_of plan) 0 input before new first reads.output

-- for whichever moves these steps of statements were left, they end so
abbrev pub StepsEnd : List StatementMoves → Plan → List Step → Layouts → (input now : List ℕ) → Ending → Type 0
StepsEnd given plan steps l input now end = (ms : List Move) (before : List ℕ)
    → Left l.reading (records l) given ms steps (support_of plan) 0 input before now → Applied (records l) ms input before end

-- where these are the reads before them, those of the moves are these
abbrev pub StepsSpend : {A : Type 0} → List StatementMoves → Plan → List Step → Layouts → (input now : List ℕ) → Result A Stop → List ℕ → (read reads : Workspace) → Type 0
StepsSpend given plan steps l input now result after read reads = (ms : List Move) (before : List ℕ) (first : Survey)
    → SpentSteps l.reading (records l) given ms steps (support_of plan) 0 input before now first read.output
    → MovesSpend (records l) ms input before result after first reads.output
