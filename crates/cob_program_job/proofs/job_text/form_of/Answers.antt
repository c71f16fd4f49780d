use Rattle.std.proofs.Common.{ap, Some, inl, inr, refl, rules}
use Rattle.cob_records.specs.declared.records.Form.TheVariants.{Fixed, Variable, Blocked}
use Rattle.cob_program_job.proofs.JobTexts.{none_said, says_one}
use Rattle.cob_program_job.proofs.job_text.form_of.Goals as goal

pub returns-then-is_line-clause-only : goal.returns-then-is_line-clause-only
returns-then-is_line-clause-only c = λ form says. ap Some (says_one c.args.said.now Fixed form (search rules) says)

pub returns-then-is_line-2-clause-only : goal.returns-then-is_line-2-clause-only
returns-then-is_line-2-clause-only c = λ form says. ap Some (says_one c.args.said.now Variable form (search rules) says)

pub returns-then-is_line-3-clause-only : goal.returns-then-is_line-3-clause-only
returns-then-is_line-3-clause-only c = λ form says. ap Some (says_one c.args.said.now (Blocked 32760) form (inl (search rules, refl)) says)

pub returns-in-Some-clause-only : goal.returns-in-Some-clause-only
returns-in-Some-clause-only c = λ form says. ap Some (says_one c.args.said.now (Blocked c.in-Some.size) form (inr c.in-Some.ensures.found) says)

pub returns-in-None-clause-only : goal.returns-in-None-clause-only
returns-in-None-clause-only c = λ form says.
    absurd (none_said c.args.said.now form says
    (λ e. let yes = c.is_line.ensures.must e in let no = c.if-is_line.false in cc)
    (λ e. let yes = c.is_line-2.ensures.must e in let no = c.if-is_line-2.false in cc)
    (λ e. let yes = c.is_line-3.ensures.must e in let no = c.if-is_line-3.false in cc)
    (λ most size. let some = c.size_of.ensures.only most size in let none = c.in-None.is in cc))
