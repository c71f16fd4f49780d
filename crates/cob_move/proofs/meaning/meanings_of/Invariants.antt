use Rattle.std.proofs.Common.{◌≡◌, ◌++◌, drop, length, List}
use Rattle.cob_move.specs.Between.{ArePairsOf}
use Rattle.cob_move_tests.specs.Entries.{records_of}
use Rattle.cob_move.specs.Meaning.{AreMeanings}
use Rattle.cob_move_apply.specs.Some.{SomeOf}
use Rattle.cob_move.specs.Refusals.{BreaksOn}
use Rattle.cob_move_data.specs.Moves.{Move, moves}
use Rattle.cob_move_names.specs.Directory.{entries_named}
use Rattle.cob_move_statements.specs.declared.fault.MoveFault.{MoveFault}
use Rattle.cob_move_statements.specs.Written.{written_statements}
use Rattle.cob_move.proofs.meaning.meanings_of.Given as goal

abbrev pub invariant-loop-statement : goal.invariant-loop-statement
invariant-loop-statement l = record {
  found : (more : List Move) → AreMeanings (entries_named l.entries.names.now) l.entries.input.now l.entries.output.now (written_statements (drop l.statement-index l.statements)) more
      → AreMeanings (entries_named l.entries.names.now) l.entries.input.now l.entries.output.now (written_statements l.statements) (moves (records_of l.entries) l.list.items ++ more);
  broken : (f : MoveFault) → SomeOf (BreaksOn f (entries_named l.entries.names.now) l.entries.input.now l.entries.output.now) (written_statements (drop l.statement-index l.statements))
      → SomeOf (BreaksOn f (entries_named l.entries.names.now) l.entries.input.now l.entries.output.now) (written_statements l.statements);
  many : length l.list.items ≡ l.statement-index;
  pairs : ArePairsOf (records_of l.entries) l.pairs;
}
