use Rattle.std.proofs.Common.{◌≡◌, List, drop}
use Rattle.cob_source.specs.Tokens.{Lexeme}
use Rattle.cob_move_apply.specs.Some.{SomeOf}
use Rattle.cob_move_loops.specs.Reading.{all_runs}
use Rattle.cob_report_refused_moves.specs.Statements.{AddsOfRuns}
use Rattle.cob_report_refused_moves.proofs.moves.add_runs.Given as goal

abbrev pub invariant-loop-run : goal.invariant-loop-run
invariant-loop-run l = record {
  far : (own : List Lexeme) → SomeOf (λ ws. ws ≡ own) (all_runs (drop l.run-index l.runs)) → SomeOf (λ ws. ws ≡ own) (all_runs l.runs);
  all : AddsOfRuns l.input l.output (λ own. SomeOf (λ ws. ws ≡ own) (all_runs l.runs)) l.initial.out.items l.out.items;
}
