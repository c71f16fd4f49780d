use Rattle.std.proofs.Common.{ℕ, List, length}
use Rattle.cob_source.specs.Tokens.{Lexeme, lexemes}
use Rattle.cob_move_names.specs.Valued.{PlainConditionNames}
use Rattle.cob_report_refused_moves.specs.Statements.{AreMoveRefusals, HasRun, IsOneWritten}
use Rattle.cob_report_refused_moves.proofs.statements.add_statements.Given as goal

abbrev pub invariant-loop-rest : goal.invariant-loop-rest
invariant-loop-rest l = record {
  far : (s : List Lexeme) → IsOneWritten s (lexemes l.rest) → IsOneWritten s (lexemes l.run);
  all : (text : List ℕ) (names : PlainConditionNames) → HasRun text l.input l.output (lexemes l.run) → AreMoveRefusals text l.input l.output names l.initial.out.items → AreMoveRefusals text l.input l.output names l.out.items;
}

abbrev pub decreases-loop-rest : goal.decreases-loop-rest
decreases-loop-rest l = length l.rest
