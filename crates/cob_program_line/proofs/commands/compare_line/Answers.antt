use Rattle.std.proofs.Common.{codes, inr, refl, ◌∙◌}
use Rattle.cob_program_options.specs.Looks.{Look, look_of}
use Rattle.cob_program_line.specs.declared.fault.LineFault.TheVariants.{Form, Measure, Number}
use Rattle.cob_program_line.proofs.Apps.{compared_forms, compared_most, fault_is, told}
use Rattle.cob_program_line.proofs.commands.compare_line.Goals as goal

pub returns-in_err-right_form-clause-fault : goal.returns-in_err-right_form-clause-fault
returns-in_err-right_form-clause-fault c =
    let look : Look = look_of c.args.options.now in
    told c.from_residual-in_err-right_form.result _ _
    (λ fault is. fault_is look fault Form (is ∙ c.in_err-right_form.ensures.fault.0) (codes "right-form", inr (inr (inr refl)), c.in_err-right_form.ensures.fault.1))
    c.from_residual-in_err-right_form.ensures.1

pub returns-in_err-most-clause-fault : goal.returns-in_err-most-clause-fault
returns-in_err-most-clause-fault c =
    let look : Look = look_of c.args.options.now in
    told c.from_residual-in_err-most.result _ _
    (λ fault is. fault_is look fault Number (is ∙ c.in_err-most.ensures.fault.0)
    (compared_forms look _ _ c.requires.only c.in_ok-left_form.ensures.named c.in_ok-right_form.ensures.named, inr (inr (inr c.in_err-most.ensures.fault.1))))
    c.from_residual-in_err-most.ensures.1

pub returns-in_err-measure-clause-fault : goal.returns-in_err-measure-clause-fault
returns-in_err-measure-clause-fault c =
    let look : Look = look_of c.args.options.now in
    told c.from_residual-in_err-measure.result _ _
    (λ fault is. fault_is look fault Measure (is ∙ c.in_err-measure.ensures.fault.0) (
      compared_most look _ c.requires.only c.in_ok-most.ensures.named
          (compared_forms look _ _ c.requires.only c.in_ok-left_form.ensures.named c.in_ok-right_form.ensures.named),
      c.in_err-measure.ensures.fault.1,
    ))
    c.from_residual-in_err-measure.ensures.1
