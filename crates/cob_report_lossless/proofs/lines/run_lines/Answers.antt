use Rattle.std.proofs.Common.{◌∙◌, List, ap, subst, sym}
use Rattle.std.proofs.lemmas.Result.{err_from_is_err_and}
use Rattle.cob_source.specs.Tokens.{Lexeme, lexemes}
use Rattle.cob_report_lossless.specs.Lines.{AreStatementLines}
use Rattle.cob_report_lossless.proofs.LineLemmas.{plain_run, turned_run}
use Rattle.cob_report_lossless.proofs.lines.run_lines.Goals as goal

pub returns-then-is_empty-clause-only : goal.returns-then-is_empty-clause-only
returns-then-is_empty-clause-only c = λ lines are.
    let plain = plain_run c.no_turn.ensures c.args.run.now c.as_slice-turn.result.now c.is_empty.result c.as_slice-turn.ensures.value c.is_empty.ensures c.if-is_empty.true in
    c.statement_lines.ensures.only lines (subst (λ (ws : List Lexeme). AreStatementLines ws lines) (sym plain) are)

pub returns-in_err-lines-clause-only : goal.returns-in_err-lines-clause-only
returns-in_err-lines-clause-only c = λ lines are.
    let turned = turned_run c.args.run.now c.as_slice-turn.result.now (lexemes c.as_slice.result.now) c.as_slice-turn.ensures.value (ap lexemes c.as_slice.ensures.value ∙ c.in_ok-words.ensures) in
    let p = err_from_is_err_and c.from_residual-in_err-lines.result c.from_residual-in_err-lines.ensures.1 in
    rw (p.1, p.2) (tt, (c.in_err-lines.ensures.only lines (subst (λ (ws : List Lexeme). AreStatementLines ws lines) (sym turned) are)).1)

pub returns-clause-only : goal.returns-clause-only
returns-clause-only c = λ lines are.
    let turned = turned_run c.args.run.now c.as_slice-turn.result.now (lexemes c.as_slice.result.now) c.as_slice-turn.ensures.value (ap lexemes c.as_slice.ensures.value ∙ c.in_ok-words.ensures) in
    c.in_ok-lines.ensures.only lines (subst (λ (ws : List Lexeme). AreStatementLines ws lines) (sym turned) are)
