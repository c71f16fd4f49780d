use Rattle.std.proofs.Common.{inl, inr}
use Rattle.cob_source.specs.Tokens.{lexemes}
use Rattle.cob_move_statements.specs.Written.{written_statements}
use Rattle.cob_move.proofs.LoopLemmas.{run_refused}
use Rattle.cob_report_refused_moves.proofs.Telling.{some_wider}
use Rattle.cob_report_refused_moves.proofs.statements.words_fault.Goals as goal

pub returns-in-Err : goal.returns-in-Err
returns-in-Err c = inl (run_refused c.in-Err.fault.rule c.in-Err.fault.line (lexemes c.args.words.now) c.in-Err.ensures.fault c.in-Err.ensures.line)

pub returns-in-Ok : goal.returns-in-Ok
returns-in-Ok c =
    some_wider c.meaning_fault.result (λ f broken. inr (written_statements c.as_slice.result.now, (let is = c.in-Ok.ensures.found in rw c.as_slice.ensures.value is), broken)) c.meaning_fault.ensures
