-- Steps carried out one after another: what those that are left come to.
use Rattle.std.specs.Prelude.{ℕ, ◌+◌, ◌*◌, ◌≤◌, List, ◌++◌, drop, length}
use Rattle.cob_codec.specs.declared.reading.Reading.{Reading}
use Rattle.cob_move_data.specs.declared.operands.StatementMoves.{StatementMoves}
use Rattle.cob_layout_places.specs.Counts.{tables_of}
use Rattle.cob_move_data.specs.Moves.{Move, Records}
use Rattle.cob_move_apply.specs.Applied.{Applied, Ending}
use Rattle.cob_move_apply.specs.InPlace.{AppliedInPlace}
use Rattle.cob_move_apply.specs.Met.{HaveMet}
use Rattle.cob_move_apply.specs.Spent.{IsSpent}
use Rattle.cob_move_apply.specs.Steps.{AreSteps, Support}
use Rattle.cob_move_apply.specs.declared.step.Step.{Step}
use Rattle.cob_move_apply.specs.declared.survey.Survey.{Survey}

-- Whatever the moves of the steps from place i on make of the storage now, these moves make of the storage before.
abbrev pub Left : Reading → Records → List StatementMoves → List Move → List Step → Support → ℕ → List ℕ → List ℕ → List ℕ → Type 0
Left x r given ms steps on i input before now =
    (rest : List Move) × AreSteps x r given on (drop i steps) rest
    × ((end : Ending) → AppliedInPlace r rest input now end → Applied r ms input before end)

-- However many receivers of the moves of the steps from place i on meet the item of a count of the storage now, and of moves behind them, those of these moves do,
-- and of the same behind them, of the storage before, with those that met one so far; and the reads so far are what is allowed for these.
abbrev pub SpentSteps : Reading → Records → List StatementMoves → List Move → List Step → Support → ℕ → List ℕ → List ℕ → List ℕ → Survey → Survey → Type 0
SpentSteps x r given ms steps on i input before now old new =
    (rest : List Move) × (met : ℕ) × AreSteps x r given on (drop i steps) rest
    × ((behind : List Move) (n : ℕ) → HaveMet r (rest ++ behind) input now n → HaveMet r (ms ++ behind) input before (met + n))
    × IsSpent r.output met old new

-- moves read no more of the output record's counts than each table's once, and once more for each receiver that met the item of a count
abbrev pub IsBounded : Records → List Move → List ℕ → List ℕ → Survey → Type 0
IsBounded r ms input before s = (met : ℕ) × HaveMet r ms input before met × (s.reads ≤ length (tables_of r.output) * (1 + met))
