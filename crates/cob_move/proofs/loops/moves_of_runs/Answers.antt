use Rattle.std.proofs.Common.{List, subst}
use Rattle.std.proofs.lemmas.List.{take_all}
use Rattle.std.proofs.lemmas.Result.{err_from_is_err_and}
use Rattle.cob_move_loops.specs.Reading.{all_runs, run_words}
use Rattle.cob_move_loops.specs.declared.writing.Run.{Run}
use Rattle.cob_move.specs.Loops.{RunRefused, SayRuns}
use Rattle.cob_move.proofs.LoopLemmas.{runs_begin, runs_next}
use Rattle.cob_move.proofs.SomeLemmas.{some_here, some_later}
use Rattle.cob_move.proofs.loops.moves_of_runs.Goals as goal

pub loop-run-init : goal.loop-run-init
loop-run-init c = record {
  says = runs_begin c.args.entries.now c.new-list.result.items c.new-list.ensures.items;
  refused = λ f h. h;
  pairs = c.requires.pairs;
}

pub loop-run-preserved : goal.loop-run-preserved
loop-run-preserved c = record {
  says = runs_next c.args.entries.now c.args.runs.now c.loop-run.run-index c.run-item.result c.loop-run.list.items c.add_run.new.list.items c.loop-run-test.true c.run-item.is c.loop-run.invariant.says c.in_ok-add_run.ensures.added;
  refused = λ f h. c.loop-run.invariant.refused f (some_later run_words (RunRefused f c.args.entries.now) c.args.runs.now c.loop-run.run-index c.run-item.result c.loop-run-test.true c.run-item.is h);
  pairs = c.in_ok-add_run.ensures.pairs;
}

pub returns-in_err-add_run-clause-fault : goal.returns-in_err-add_run-clause-fault
returns-in_err-add_run-clause-fault c =
    let p = err_from_is_err_and c.from_residual.result c.from_residual.ensures.1 in
    rw (p.1, p.2) (c.loop-run.invariant.refused c.in_err-add_run.field-0.0 (some_here run_words (RunRefused c.in_err-add_run.field-0.0 c.args.entries.now) c.args.runs.now c.loop-run.run-index c.run-item.result c.loop-run-test.true c.run-item.is
    c.in_err-add_run.ensures.fault))

pub returns-clause-found : goal.returns-clause-found
returns-clause-found c = subst (λ (rs : List Run). SayRuns c.args.entries.now (all_runs rs) c.loop-run.list.items) (take_all c.loop-run.run-index c.args.runs.now c.loop-run-test.false) c.loop-run.invariant.says
