-- Which moves a test stands before.
use Rattle.std.specs.Prelude.{◌≡◌, ℕ, Bool, true, false, List, [], ◌∷◌, ◌+◌, ◌++◌, drop, get_or, length, replicate, take}
use Rattle.cob_move_data.specs.declared.operands.StatementMoves.{StatementMoves}
use Rattle.cob_move_data.specs.declared.operands.StatementMoves.TheVariants.{Single, Pairs}
use Rattle.cob_move_data.specs.Moves.{Move, Records}
use Rattle.cob_move_apply.specs.Marked.{moves_between_marks}
use Rattle.cob_move_deeds.specs.declared.flow.Flow.{Flow}
use Rattle.cob_move_deeds.specs.declared.flow.Flow.TheVariants as flow
use Rattle.cob_move_deeds.specs.Deeds.{Choice, Deeds, Moving, Nothing, moves_of_deeds}
use Rattle.cob_move_deeds.specs.Flows.{FlowSupport, loop_done}
use Rattle.std.specs.List.{slice_get}
use Rattle.cob_back_moves.specs.Brought.{moves_between}
use Rattle.cob_back_moves.specs.Tested.{layout_records}
use Rattle.cob_back_moves.specs.declared.some.MovesBetween.{MovesBetween}

-- the moves that no test stands before, in order: of each stretch of them its own
abbrev pub untested_moves : {T : Type 0} → Deeds T → List (List Move)
untested_moves Nothing = []
untested_moves (Moving ms more) = ms ∷ untested_moves more
untested_moves (Choice t holding lacking more) = untested_moves more

-- Of each of the moves that may be carried out, in order, whether a test stands before it, or before all of them. What stands behind both branches of a
-- test is done whatever it says.
abbrev pub tested_moves : {T : Type 0} → Bool → Deeds T → List Bool
tested_moves tested Nothing = []
tested_moves tested (Moving ms more) = replicate (length ms) tested ++ tested_moves tested more
tested_moves tested (Choice t holding lacking more) = tested_moves true holding ++ (tested_moves true lacking ++ tested_moves tested more)

-- the moves between the records of these layouts
abbrev pub moves_told : MovesBetween → List Move
moves_told m = moves_between m.layouts m.statements.now

-- they are between these records
abbrev pub AreBetween : Records → MovesBetween → Type 0
AreBetween r m = r ≡ layout_records m.layouts

-- ---- statements

-- how many moves a statement makes
abbrev pub move_count : StatementMoves → ℕ
move_count (Single m) = 1
move_count (Pairs g) = length g.pairs.items

-- how many moves statements make
abbrev pub moves_counted : List StatementMoves → ℕ
moves_counted [] = 0
moves_counted (s ∷ ss) = move_count s + moves_counted ss

-- Of each statement the mark of its first move, where there are marks for the moves of all statements, one statement's behind another's.
abbrev pub statement_marks : List Bool → List StatementMoves → List Bool
statement_marks marks [] = []
statement_marks marks (s ∷ ss) = get_or (take (move_count s) marks) 0 false ∷ statement_marks (drop (move_count s) marks) ss

-- ---- flows

-- how many flows stand under the test that a flow is: those of both branches of a condition, and the skip between them
abbrev pub passed_of : Flow → ℕ
passed_of (flow.Moves number) = 0
passed_of (flow.Turns number) = 0
passed_of (flow.Until bound number skip) = skip
passed_of (flow.Where condition holding lacking) = holding + 1 + lacking
passed_of (flow.Skip count) = 0

-- the stretch that a flow is where no test stands before it
abbrev pub stretches_of : Records → FlowSupport → Flow → List (List Move)
stretches_of r on (flow.Moves number) = moves_between_marks r on.moves number (number + 1) ∷ []
stretches_of r on (flow.Turns number) = []
stretches_of r on (flow.Until bound number skip) = []
stretches_of r on (flow.Where condition holding lacking) = []
stretches_of r on (flow.Skip count) = []

-- the moves that a flow may carry out
abbrev pub flow_moves : Records → FlowSupport → Flow → List Move
flow_moves r on (flow.Moves number) = moves_between_marks r on.moves number (number + 1)
flow_moves r on (flow.Turns number) = moves_of_deeds (loop_done r on (slice_get on.loops number))
flow_moves r on (flow.Until bound number skip) = []
flow_moves r on (flow.Where condition holding lacking) = []
flow_moves r on (flow.Skip count) = []

-- of each of them whether a test stands before it: in a loop there is one
abbrev pub flow_marks : Records → FlowSupport → Bool → Flow → List Bool
flow_marks r on tested (flow.Moves number) = replicate (length (moves_between_marks r on.moves number (number + 1))) tested
flow_marks r on tested (flow.Turns number) = replicate (length (moves_of_deeds (loop_done r on (slice_get on.loops number)))) true
flow_marks r on tested (flow.Until bound number skip) = []
flow_marks r on tested (flow.Where condition holding lacking) = []
flow_marks r on tested (flow.Skip count) = []
