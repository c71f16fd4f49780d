use Rattle.cob_program_job.specs.Marks.{IsFormMark}
use Rattle.cob_records.specs.declared.records.Form.{Form}
use Rattle.cob_program_job.proofs.JobTexts.{other_line}
use Rattle.cob_program_job.proofs.job_text.Lines.form_mark.Goals as goal

pub returns-in-None-form_of_mark-clause-err : goal.returns-in-None-form_of_mark-clause-err
returns-in-None-form_of_mark-clause-err c =
    other_line (λ line. (form : Form) × IsFormMark c.args.front.now form line) c.args.self.now.rest.now c.in-Some.line.now _ c.args.self.now.number _ c.in-Some.ensures.some
    (λ (form, says). let some = c.form_of_mark.ensures.only form says in let none = c.in-None-form_of_mark.is in cc)
