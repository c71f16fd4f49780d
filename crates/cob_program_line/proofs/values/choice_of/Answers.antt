use Rattle.std.proofs.Common.{inl, inr, ◌∙◌}
use Rattle.cob_program_options.specs.Looks.{look_of}
use Rattle.cob_program_line.specs.declared.fault.LineFault.TheVariants.{Number}
use Rattle.cob_program_line.proofs.Apps.{fault_is, told}
use Rattle.cob_program_line.proofs.values.choice_of.Goals as goal

pub returns-in_err-skip-clause-fault : goal.returns-in_err-skip-clause-fault
returns-in_err-skip-clause-fault c =
    told c.from_residual.result _ _ (λ fault is. fault_is (look_of c.args.options.now) fault Number (is ∙ c.in_err-skip.ensures.fault.0) (c.requires.before, inl c.in_err-skip.ensures.fault.1)) c.from_residual.ensures.1

pub returns-in_err-records-clause-fault : goal.returns-in_err-records-clause-fault
returns-in_err-records-clause-fault c =
    told c.from_residual-in_err-records.result _ _ (λ fault is. fault_is (look_of c.args.options.now) fault Number (is ∙ c.in_err-records.ensures.fault.0) (c.requires.before, inr (inl c.in_err-records.ensures.fault.1))) c.from_residual-in_err-records.ensures.1
