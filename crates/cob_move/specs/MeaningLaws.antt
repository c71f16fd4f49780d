-- What follows from the definitions, said as laws.
use Rattle.std.specs.Prelude.{◌≡◌, List}
use Rattle.cob_copybook.specs.Books.{IsRecordDescription}
use Rattle.cob_copybook_tree.specs.Forests.{Forest}
use Rattle.cob_copybook_tree.specs.Nodes.{Resolved}
use Rattle.cob_move_data.specs.Moves.{Move, Records, AreMoves}
use Rattle.cob_move_statements.specs.declared.fault.MoveFault.{MoveFault}
use Rattle.cob_move_statements.specs.declared.fault.MoveRule.{MoveRule}
use Rattle.cob_move_statements.specs.declared.fault.MoveRule.TheVariants.{Memory}
use Rattle.cob_move_statements.specs.Written.{WrittenAction, WrittenStatement}
use Rattle.cob_move_names.specs.Candidates.{Candidate}
use Rattle.cob_move.specs.Meaning.{IsMeaning, AreMeanings, AreMeant}
use Rattle.cob_move.specs.Refusals.{BreaksStatement, SomeBroken}

-- Law: a statement has one meaning at most.
abbrev pub OneMeaning : Type 0
OneMeaning = (all : List Candidate) (input output : Forest Resolved) (a : WrittenAction) (ms ns : List Move)
    → IsMeaning all input output a ms → IsMeaning all input output a ns → ms ≡ ns

-- Law: a statement that has a meaning breaks no rule.
abbrev pub MeaningsBreakNoRule : Type 0
MeaningsBreakNoRule = (all : List Candidate) (input output : Forest Resolved) (a : WrittenAction) (ms : List Move) (r : MoveRule)
    → IsMeaning all input output a ms → BreaksStatement r all input output a → r ≡ Memory

-- Law: statements have one meaning at most.
abbrev pub OneMeant : Type 0
OneMeant = (all : List Candidate) (input output : Forest Resolved) (ss : List WrittenStatement) (ms ns : List Move)
    → AreMeanings all input output ss ms → AreMeanings all input output ss ns → ms ≡ ns

-- Law: of statements that have a meaning, none breaks a rule.
abbrev pub MeantBreakNoRule : Type 0
MeantBreakNoRule = (all : List Candidate) (input output : Forest Resolved) (ss : List WrittenStatement) (ms : List Move) (f : MoveFault)
    → AreMeanings all input output ss ms → SomeBroken f all input output ss → f ≡ record { rule = Memory; line = 0 }

-- Law: the moves that statements mean are moves between the two records.
abbrev pub MeantAreMoves : Type 0
MeantAreMoves = (records : Records) (ss : List WrittenStatement) (ms : List Move) → IsRecordDescription records.input → IsRecordDescription records.output
    → AreMeant records.input records.output ss ms → AreMoves records ms
