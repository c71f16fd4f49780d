use Rattle.std.proofs.Common.{inl, inr, sym, ◌∙◌}
use Rattle.std.proofs.lemmas.List.{length-map}
use Rattle.std.proofs.lemmas.Result.{err_from_is_err_and}
use Rattle.cob_source.specs.Tokens.{lexemes}
use Rattle.cob_move_statements.specs.Written.{written_statement, written_statements}
use Rattle.cob_move.proofs.LoopLemmas.{run_refused}
use Rattle.cob_move.proofs.loops.add_words.Goals as goal

pub returns-in_err-statements-clause-fault : goal.returns-in_err-statements-clause-fault
returns-in_err-statements-clause-fault c =
    let p = err_from_is_err_and c.from_residual.result c.from_residual.ensures.1 in
    rw (p.1, p.2) (inl (run_refused c.in_err-statements.field-0.0.rule c.in_err-statements.field-0.0.line (lexemes c.args.words.now) c.in_err-statements.ensures.fault c.in_err-statements.ensures.line))

pub returns-in_err-own-clause-fault : goal.returns-in_err-own-clause-fault
returns-in_err-own-clause-fault c =
    let p = err_from_is_err_and c.from_residual-in_err-own.result c.from_residual-in_err-own.ensures.1 in
    let is = c.in_ok-statements.ensures.found in
    rw (p.1, p.2) (inr (written_statements c.as_slice.result.now, rw c.as_slice.ensures.value is, c.in_err-own.ensures.fault))

pub returns-clause-added : goal.returns-clause-added
returns-clause-added c = record {
  statements = written_statements c.as_slice.result.now;
  own = c.in_ok-own.own.items;
  spelled = let is = c.in_ok-statements.ensures.found in rw c.as_slice.ensures.value is;
  meant = c.in_ok-own.ensures.found;
  many = c.in_ok-own.ensures.many ∙ sym (length-map c.as_slice.result.now written_statement);
  added = c.in_ok-append.ensures.items;
}
