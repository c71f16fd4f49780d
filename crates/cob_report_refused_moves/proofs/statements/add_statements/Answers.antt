use Rattle.cob_source.specs.Tokens.{lexemes}
use Rattle.cob_report_refused_moves.proofs.Cutting.{one_behind, one_here}
use Rattle.cob_report_refused_moves.proofs.statements.add_statements.Goals as goal

pub loop-rest-init : goal.loop-rest-init
loop-rest-init c = record { far = λ s h. h; all = λ text names has h. h }

pub loop-rest-preserved : goal.loop-rest-preserved
loop-rest-preserved c =
    let run = lexemes c.args.run.now in
    let rest = lexemes c.loop-rest.rest.now in
    let own = lexemes c.written_at.result.0.now in
    let more = lexemes c.written_at.result.1.now in
    record {
      far = one_behind run rest own more c.loop-rest.invariant.far c.written_at.ensures.written c.written_at.ensures.cut;
      all = λ text names has h. c.in_ok-add_doubtful.ensures text names
          (λ f refused. has f own (one_here run rest own more c.loop-rest.invariant.far c.written_at.ensures.written c.written_at.ensures.cut) refused)
          (c.loop-rest.invariant.all text names has h);
    }
