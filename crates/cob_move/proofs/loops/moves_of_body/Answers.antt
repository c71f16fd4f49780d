use Rattle.std.proofs.Common.{◌≡◌, []}
use Rattle.std.proofs.lemmas.Result.{err_from_is_err_and}
use Rattle.cob_source.specs.Tokens.{lexemes}
use Rattle.cob_move_loops.specs.Passages.{IsPassage, Passage}
use Rattle.cob_move_loops.specs.Reading.{all_runs}
use Rattle.cob_move_loops.specs.Turns.{words_by_turn}
use Rattle.cob_move.proofs.LoopLemmas.{runs_refused, says_body}
use Rattle.cob_move.proofs.loops.moves_of_body.Goals as goal

pub returns-in_err-list-clause-fault : goal.returns-in_err-list-clause-fault
returns-in_err-list-clause-fault c =
    let p = err_from_is_err_and c.from_residual-in_err-list.result c.from_residual-in_err-list.ensures.1 in
    let out : (p : Passage) → IsPassage p (lexemes c.args.body.now) → all_runs c.as_slice.result.now ≡ words_by_turn [] p = rw c.as_slice.ensures.value c.in_ok-runs.ensures in
    rw (p.1, p.2) (runs_refused c.in_err-list.field-0.0 c.args.entries.now (lexemes c.args.body.now) (all_runs c.as_slice.result.now) c.requires.judged out c.in_err-list.ensures.fault)

pub returns-clause-found : goal.returns-clause-found
returns-clause-found c =
    let out : (p : Passage) → IsPassage p (lexemes c.args.body.now) → all_runs c.as_slice.result.now ≡ words_by_turn [] p = rw c.as_slice.ensures.value c.in_ok-runs.ensures in
    says_body c.args.entries.now (lexemes c.args.body.now) (all_runs c.as_slice.result.now) c.in_ok-list.list.items c.requires.judged out c.in_ok-list.ensures.found
