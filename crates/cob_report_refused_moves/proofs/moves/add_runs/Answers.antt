use Rattle.std.proofs.Common.{◌≡◌, refl}
use Rattle.cob_move_loops.specs.Reading.{run_words}
use Rattle.cob_move.proofs.SomeLemmas.{some_here, some_later}
use Rattle.cob_report_refused_moves.proofs.moves.add_runs.Goals as goal

pub loop-run-init : goal.loop-run-init
loop-run-init c = record { far = λ own h. h; all = λ text names has h. h }

pub loop-run-preserved : goal.loop-run-preserved
loop-run-preserved c = record {
  far = λ own h. c.loop-run.invariant.far own (some_later run_words (λ ws. ws ≡ own) c.args.runs.now c.loop-run.run-index c.run-item.result c.loop-run-test.true c.run-item.is h);
  all = λ text names has h.
      let own = run_words c.run-item.result in
      c.in_ok-add_judged.ensures text names (has own (c.loop-run.invariant.far own (some_here run_words (λ ws. ws ≡ own) c.args.runs.now c.loop-run.run-index c.run-item.result c.loop-run-test.true c.run-item.is refl)))
      (c.loop-run.invariant.all text names has h);
}
