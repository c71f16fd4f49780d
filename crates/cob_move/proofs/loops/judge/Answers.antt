use Rattle.std.proofs.lemmas.Result.{err_from_is_err_and}
use Rattle.cob_source.specs.Tokens.{lexemes}
use Rattle.cob_move_loops.specs.Reading.{written_loops}
use Rattle.cob_move_names.specs.Directory.{entries_named}
use Rattle.cob_move.specs.Loops.{AreItsLoops}
use Rattle.cob_move.proofs.LoopLemmas.{clash_refused, judged, names_refused}
use Rattle.cob_move.proofs.loops.judge.Goals as goal

pub returns-in_err-check_passage-clause-fault : goal.returns-in_err-check_passage-clause-fault
returns-in_err-check_passage-clause-fault c =
    let p = err_from_is_err_and c.from_residual.result c.from_residual.ensures.1 in
    rw (p.1, p.2) (c.in_err-check_passage.ensures.fault (entries_named c.args.names.now))

pub returns-in_err-heads-clause-fault : goal.returns-in_err-heads-clause-fault
returns-in_err-heads-clause-fault c =
    let p = err_from_is_err_and c.from_residual-in_err-heads.result c.from_residual-in_err-heads.ensures.1 in
    rw (p.1, p.2) (clash_refused (entries_named c.args.names.now) (lexemes c.args.body.now) c.in_err-heads.field-0.0 c.in_ok-check_passage.ensures.found c.in_err-heads.ensures.fault)

pub returns-in_err-check_names-clause-fault : goal.returns-in_err-check_names-clause-fault
returns-in_err-check_names-clause-fault c =
    let p = err_from_is_err_and c.from_residual-in_err-check_names.result c.from_residual-in_err-check_names.ensures.1 in
    let are : AreItsLoops (lexemes c.args.body.now) (written_loops c.as_slice.result.now) = rw c.as_slice.ensures.value c.in_ok-heads.ensures.found in
    rw (p.1, p.2) (names_refused (entries_named c.args.names.now) (lexemes c.args.body.now) (written_loops c.as_slice.result.now) c.in_err-check_names.field-0.0 c.in_ok-check_passage.ensures.found are
    c.in_err-check_names.ensures.fault.0 c.in_err-check_names.ensures.fault.1)

pub returns-clause-found : goal.returns-clause-found
returns-clause-found c =
    let are : AreItsLoops (lexemes c.args.body.now) (written_loops c.as_slice.result.now) = rw c.as_slice.ensures.value c.in_ok-heads.ensures.found in
    judged (entries_named c.args.names.now) (lexemes c.args.body.now) (written_loops c.as_slice.result.now) c.in_ok-check_passage.ensures.found are c.in_ok-check_names.ensures.found

pub returns-clause-literal : goal.returns-clause-literal
returns-clause-literal c = λ p is.
    let are : AreItsLoops (lexemes c.args.body.now) (written_loops c.as_slice-2.result.now) = rw c.as_slice-2.ensures.value c.in_ok-heads.ensures.found in
    c.is_literal.ensures p is (are p is).1
