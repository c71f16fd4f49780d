use Rattle.std.proofs.Common.{◌≡◌, ◌++◌, drop, map}
use Rattle.cob_move_statements.specs.Written.{written_statements}
use Rattle.cob_report_lossless.specs.Lines.{line_of_statement}
use Rattle.cob_report_lossless.proofs.lines.first_lines.Given as goal

abbrev pub invariant-loop-statement : goal.invariant-loop-statement
invariant-loop-statement l =
    l.lines.items ++ map line_of_statement (written_statements (drop l.statement-index l.statements)) ≡ map line_of_statement (written_statements l.statements)
