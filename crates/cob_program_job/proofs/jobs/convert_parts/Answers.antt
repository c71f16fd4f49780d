use Rattle.std.proofs.Common.{List, ℕ, refl, subst}
use Rattle.std.proofs.lemmas.Result.{err_from_is_err_and}
use Rattle.cob_program_job.specs.JobAnswers.{RunsOver}
use Rattle.cob_program_job.specs.Parts.{parts_of}
use Rattle.cob_program_job.proofs.Answering.{data_refused, text_refused, has_run, unread_data, output_data, unread_text, output_text, unread_run, output_run}
use Rattle.cob_program_job.proofs.jobs.convert_parts.Goals as goal

pub returns-in_err-data-clause-outcome : goal.returns-in_err-data-clause-outcome
returns-in_err-data-clause-outcome g c =
    let p = err_from_is_err_and c.from_residual.result c.from_residual.ensures.1 in
    data_refused (parts_of c.args.job.now) c.args.job.now.data_line c.from_residual.result (g.W.Sink.taken c.args.sink.now) c.in_err-data.field-0.0 p.0 c.in_err-data.ensures.refused p.1 p.2

pub returns-in_err-data-clause-kind : goal.returns-in_err-data-clause-kind
returns-in_err-data-clause-kind g c =
    let p = err_from_is_err_and c.from_residual.result c.from_residual.ensures.1 in
    rw (p.1, p.2) (unread_data c.in_err-data.field-0.0)

pub returns-in_err-data-clause-cause : goal.returns-in_err-data-clause-cause
returns-in_err-data-clause-cause g c =
    let p = err_from_is_err_and c.from_residual.result c.from_residual.ensures.1 in
    rw (p.1, p.2, output_data c.in_err-data.field-0.0) refl

pub returns-in_err-converter-clause-outcome : goal.returns-in_err-converter-clause-outcome
returns-in_err-converter-clause-outcome g c =
    let p = err_from_is_err_and c.from_residual-in_err-converter.result c.from_residual-in_err-converter.ensures.1 in
    text_refused (parts_of c.args.job.now) c.args.job.now.data_line c.from_residual-in_err-converter.result (g.W.Sink.taken c.args.sink.now) c.in_ok-data.data.items
    c.in_err-converter.field-0.0 p.0 c.in_ok-data.ensures.bytes c.in_err-converter.ensures.refused p.1 p.2

pub returns-in_err-converter-clause-kind : goal.returns-in_err-converter-clause-kind
returns-in_err-converter-clause-kind g c =
    let p = err_from_is_err_and c.from_residual-in_err-converter.result c.from_residual-in_err-converter.ensures.1 in
    rw (p.1, p.2) (unread_text c.in_err-converter.field-0.0)

pub returns-in_err-converter-clause-cause : goal.returns-in_err-converter-clause-cause
returns-in_err-converter-clause-cause g c =
    let p = err_from_is_err_and c.from_residual-in_err-converter.result c.from_residual-in_err-converter.ensures.1 in
    rw (p.1, p.2, output_text c.in_err-converter.field-0.0) refl

pub returns-clause-outcome : goal.returns-clause-outcome
returns-clause-outcome g c =
    let ran : RunsOver c.in_ok-converter.converter c.in_ok-data.data.items c.run_over_data.result (g.W.Sink.taken c.args.sink.now) (g.W.Sink.taken c.run_over_data.new.sink)
    = subst (λ (bytes : List ℕ). RunsOver c.in_ok-converter.converter bytes c.run_over_data.result (g.W.Sink.taken c.args.sink.now) (g.W.Sink.taken c.run_over_data.new.sink))
    c.deref.ensures.value c.run_over_data.ensures.ran in
    has_run (parts_of c.args.job.now) c.args.job.now.data_line c.answer_of.result c.run_over_data.result c.in_ok-data.data.items ran.0 c.in_ok-converter.converter
    (g.W.Sink.taken c.args.sink.now) (g.W.Sink.taken c.run_over_data.new.sink) c.in_ok-data.ensures.bytes c.in_ok-converter.ensures.means c.in_ok-converter.ensures.forms.0
    c.in_ok-converter.ensures.forms.1 ran.1 c.run_over_data.ensures.read c.answer_of.ensures

pub returns-clause-kind : goal.returns-clause-kind
returns-clause-kind g c = rw c.answer_of.ensures (unread_run c.run_over_data.result)

pub returns-clause-cause : goal.returns-clause-cause
returns-clause-cause g c = rw (c.answer_of.ensures, output_run c.run_over_data.result) c.run_over_data.ensures.cause
