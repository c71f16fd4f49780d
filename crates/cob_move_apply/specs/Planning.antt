-- What is promised of plans as they are made: what steps that become more stand for, whatever the reading.
use Rattle.std.specs.Prelude.{◌≡◌, ℕ, List, [], ◌∷◌, ◌++◌, Option}
use Rattle.cob_codec.specs.declared.reading.Reading.{Reading}
use Rattle.cob_move_data.specs.declared.operands.Move as code_move
use Rattle.cob_move_data.specs.declared.operands.Sender as code_sender
use Rattle.cob_move_data.specs.declared.operands.Side.{Side}
use Rattle.cob_move_data.specs.declared.operands.Side.TheVariants.{In}
use Rattle.cob_move_data.specs.declared.operands.StatementMoves.{StatementMoves}
use Rattle.cob_layout_places.specs.declared.reference.Ref.{Ref}
use Rattle.cob_move_data.specs.Moves.{Entry, Move, Records, move_by, moves_by, operand_in, sender_by, statement_moves_by}
use Rattle.cob_move_steps.specs.declared.pictured.PicturedSteps.{PicturedSteps}
use Rattle.cob_move_steps.specs.declared.pool.MoveSteps.{MoveSteps}
use Rattle.cob_move_apply.specs.Joined.{plain_copy, steps_in}
use Rattle.cob_move_apply.specs.Planned.{AlwaysLocated, AlwaysLocatedConstant, AreMore, IsStatementAt, counted_steps, records_between}
use Rattle.cob_move_apply.specs.Steps.{AreSteps, Gains, GainsCut, IsStep, StandFor, Support, one_by_one, support_of}
use Rattle.cob_move_apply.specs.Written.{AreCopied}
use Rattle.cob_move_apply.specs.declared.planning.Between.{Between}
use Rattle.cob_move_apply.specs.declared.ready.ReadyLocatedConstant.{ReadyLocatedConstant}
use Rattle.cob_move_apply.specs.declared.step.LocatedMove.{LocatedMove}
use Rattle.cob_move_apply.specs.declared.step.MovePlaces.{MovePlaces}
use Rattle.cob_move_apply.specs.declared.step.Part.{Part}
use Rattle.cob_move_apply.specs.declared.step.Plan.{Plan}
use Rattle.cob_move_apply.specs.declared.step.Step.{Step}
use Rattle.cob_move_apply.specs.declared.step.Step.TheVariants as step

-- the last step of these takes a copy behind it into this one: for what it stood for, this one stands, and for what the copy is behind that
abbrev pub StepTakesCopy : MovePlaces → (last both : Step) → Type 0
StepTakesCopy c last both = (reading : Reading) (r : Records) (given : List StatementMoves) (on : Support) (own next : List Move)
    → IsStep reading r given on last own → AreCopied r c.from c.to next → IsStep reading r given on both (own ++ next)

-- so do steps, which then are these
abbrev pub StepsTakeCopy : MovePlaces → (before now : List Step) → Type 0
StepsTakeCopy c before now = (reading : Reading) (r : Records) (given : List StatementMoves) (on : Support) (parts next : List Move)
    → AreSteps reading r given on before parts → AreCopied r c.from c.to next → AreSteps reading r given on now (parts ++ next)

-- steps became these by one more, which is a part of so many receivers
abbrev pub HasPartMore : (before now : List Step) → ℕ → Type 0
HasPartMore before now count = (p : Part) × (now ≡ before ++ step.Part p ∷ []) × (p.count ≡ count)

-- a move, by itself
abbrev pub move_alone : Between → code_move.Move → Reading → List Move
move_alone b m reading = move_by reading (records_between b) m ∷ []

-- the single moves of a move, by themselves
abbrev pub singles_alone : Between → code_move.Move → Reading → List Move
singles_alone b m reading = one_by_one (move_by reading (records_between b) m)

-- the moves of a statement, by themselves
abbrev pub moves_alone : Between → StatementMoves → Reading → List Move
moves_alone b s reading = statement_moves_by reading (records_between b) s

-- the places of the copy that the single move of an entry of the input record is
abbrev pub entry_copy : Between → Ref → Ref → Reading → Option MovePlaces
entry_copy b sent receiver reading =
    plain_copy (records_between b) (Entry In reading (operand_in b.input.now sent)) (operand_in b.output.now receiver)

-- those of the copy that the single move of a sender is
abbrev pub single_copy : Between → code_sender.Sender → Ref → Reading → Option MovePlaces
single_copy b s receiver reading =
    plain_copy (records_between b) (sender_by reading (records_between b) s) (operand_in b.output.now receiver)

-- Whatever the records and the reading, a plan became another, with steps for whichever moves are so behind those before.
abbrev pub GainsAny : (Records → (Reading → List Move) → Type 0) → (before now : Plan) → Type 0
GainsAny P before now = (reading : Reading) (r : Records) (given : List StatementMoves) (ms : Reading → List Move)
    → P r ms → Gains reading r given (ms reading) before now

-- Whatever the reading, a plan became another, with steps for what the moves of the statement with this number are cut into.
abbrev pub GainsStatement : Between → List StatementMoves → ℕ → (before now : Plan) → Type 0
GainsStatement b given number before now = (reading : Reading) (s : StatementMoves) → IsStatementAt given number s
    → GainsCut reading (records_between b) given (moves_alone b s reading) before now

-- Whatever the reading, steps became these, which are as many more as the moves of the statement with this number make.
abbrev pub MoreByStatement : Between → List StatementMoves → ℕ → (before now : List Step) → Type 0
MoreByStatement b given number before now = (reading : Reading) (s : StatementMoves) → IsStatementAt given number s
    → AreMore (records_between b) (moves_alone b s reading) before now

-- Whatever the reading, a single move of an entry of the record of a side was made ready so wherever its items stand.
abbrev pub IsLocatedBetween : Side → Between → MoveSteps → PicturedSteps → (Reading → List Move) → LocatedMove → Type 0
IsLocatedBetween side b steps pictured ms p = AlwaysLocated side (records_between b) steps pictured p ms

-- Whatever the reading, a single move of a constant was made ready so between two records wherever its receiver stands.
abbrev pub IsLocatedConstantBetween : Between → (Reading → List Move) → ReadyLocatedConstant → Type 0
IsLocatedConstantBetween b ms one = AlwaysLocatedConstant (records_between b) one ms

-- Whatever the reading, the steps of a plan stand for all moves of statements.
abbrev pub IsPlanFor : Records → List StatementMoves → Plan → Type 0
IsPlanFor r given plan = (reading : Reading) → StandFor reading r given plan.steps.items (support_of plan) (moves_by reading r given)

-- Whatever the reading, they are counted as the steps that these moves make.
abbrev pub CountsSteps : Records → List StatementMoves → Plan → Type 0
CountsSteps r given plan = (reading : Reading) → counted_steps plan.steps.items ≡ steps_in r (moves_by reading r given)
