-- Moves parted by marks: statements, and the steps that stand for their moves, each parted where the other is.
use Rattle.std.specs.Prelude.{◌≡◌, ℕ, ◌+◌, ◌-◌, ◌<◌, ◌≤◌, List, [], ◌∷◌, drop, get_or, length, map, take}
use Rattle.cob_codec.specs.declared.reading.Reading.{Reading}
use Rattle.cob_move_data.specs.declared.operands.StatementMoves.{StatementMoves}
use Rattle.cob_move_data.specs.Moves.{AreMoves, Move, Records, moves_by}
use Rattle.cob_move_apply.specs.Joined.{steps_in}
use Rattle.cob_move_apply.specs.Planned.{counted_steps, records_between}
use Rattle.cob_move_apply.specs.Steps.{Grows, StandFor, Support, support_of}
use Rattle.cob_move_apply.specs.declared.marking.Mark.{Mark}
use Rattle.cob_move_apply.specs.declared.marked.MarkedMoves.{MarkedMoves}
use Rattle.cob_move_apply.specs.declared.planning.Between.{Between}
use Rattle.cob_move_apply.specs.declared.step.Plan.{Plan}
use Rattle.cob_move_apply.specs.declared.step.Step.{Step}

-- the items of a list from one number up to another
abbrev pub items_between : {A : Type 0} → (from to : ℕ) → List A → List A
items_between from to xs = take (to - from) (drop from xs)

-- the mark with this number
abbrev pub mark_at : List Mark → ℕ → Mark
mark_at marks number = get_or marks number (record { statement = 0; step = 0 })

-- the last of some marks
abbrev pub last_mark : List Mark → Mark
last_mark marks = mark_at marks (length marks - 1)

-- how many statements stand before a mark
abbrev pub statement_of : Mark → ℕ
statement_of m = m.statement

-- the steps between two marks stand for the moves of the statements between them
abbrev pub StandBetween : Reading → Records → List StatementMoves → Support → List Step → (from to : Mark) → Type 0
StandBetween x r given on steps from to =
    StandFor x r given (items_between from.step to.step steps) on (moves_by x r (items_between from.statement to.statement given))

-- how many steps the moves of statements make that stand behind so many others and are parted by marks: those between two of these make theirs by themselves
abbrev pub parted_steps : Reading → Records → List StatementMoves → ℕ → List Mark → ℕ
parted_steps x r given behind [] = 0
parted_steps x r given behind (m ∷ ms) = steps_in r (moves_by x r (items_between behind m.statement given)) + parted_steps x r given m.statement ms

-- Marks part statements and steps. The first stands before all of them, and the last behind all steps; none stands before one in front of it. Whatever the
-- reading, the steps between two of them stand for the moves between these, and all are as many as the moves between one and the next make.
pub record ArePartedBy (r : Records) (given : List StatementMoves) (on : Support) (steps : List Step) (marks : List Mark) : Type 0 where
  pub some : 0 < length marks
  pub first : mark_at marks 0 ≡ record { statement = 0; step = 0 }
  pub last : (last_mark marks).step ≡ length steps
  pub rise : (from to : ℕ) → from ≤ to → to < length marks
      → ((mark_at marks from).statement ≤ (mark_at marks to).statement) × ((mark_at marks from).step ≤ (mark_at marks to).step)
  pub stand : (x : Reading) (from to : ℕ) → from ≤ to → to < length marks → StandBetween x r given on steps (mark_at marks from) (mark_at marks to)
  pub count : (x : Reading) → counted_steps steps ≡ parted_steps x r given 0 marks

-- Numbers rise from one up to another, which is the last of them.
abbrev pub RiseUpTo : (begin whole : ℕ) → List ℕ → Type 0
RiseUpTo begin whole [] = begin ≡ whole
RiseUpTo begin whole (end ∷ ends) = (begin ≤ end) × (end ≤ whole) × RiseUpTo end whole ends

-- ---- moves that are ready

-- the moves from one mark to another, in their order, their senders read as they are to be
abbrev pub moves_between_marks : Records → MarkedMoves → (from to : ℕ) → List Move
moves_between_marks r m from to =
    moves_by m.moves.reading r (items_between (mark_at m.marks.items from).statement (mark_at m.marks.items to).statement m.moves.statements.items)

-- how many steps they make, those between one mark and the next by themselves
abbrev pub marked_steps : Records → MarkedMoves → ℕ
marked_steps r m = parted_steps m.moves.reading r m.moves.statements.items 0 m.marks.items

-- how many statements stand before each mark
abbrev pub ends_of_marks : MarkedMoves → List ℕ
ends_of_marks m = map statement_of m.marks.items

-- Whatever the reading, they are moves between these records, which marks part up to the end, and the steps between two marks stand for those between them.
pub record AreMarkedPrepared (r : Records) (m : MarkedMoves) : Type 0 where
  pub parted : ArePartedBy r m.moves.statements.items (support_of m.moves.plan) m.moves.plan.steps.items m.marks.items
  pub whole : (last_mark m.marks.items).statement ≡ length m.moves.statements.items
  pub moves : (x : Reading) → AreMoves r (moves_by x r m.moves.statements.items)

-- ---- as they are made

-- Whatever the reading, the steps of a plan stand for the moves of the statements from one number up to another.
abbrev pub StandForSome : Between → List StatementMoves → (from to : ℕ) → Plan → Type 0
StandForSome b given from to plan = (x : Reading)
    → StandFor x (records_between b) given plan.steps.items (support_of plan) (moves_by x (records_between b) (items_between from to given))

-- Whatever the reading, they are counted as the steps that these moves make.
abbrev pub CountsSome : Between → List StatementMoves → (from to : ℕ) → Plan → Type 0
CountsSome b given from to plan = (x : Reading)
    → counted_steps plan.steps.items ≡ steps_in (records_between b) (moves_by x (records_between b) (items_between from to given))

-- what the steps of a plan rest on became more
abbrev pub PlanGrows : (before now : Plan) → Type 0
PlanGrows before now = Grows (support_of before) (support_of now)
