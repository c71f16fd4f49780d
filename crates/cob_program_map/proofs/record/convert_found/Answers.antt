use Rattle.std.proofs.Common.{rules, ap, ◌∙◌}
use Rattle.cob_convert_stream.specs.Reasons.{reason_of}
use Rattle.cob_convert_stream.specs.declared.fault.RunFault.{RunFault}
use Rattle.cob_convert.specs.Outcomes.{ByConversion}
use Rattle.cob_program_map.proofs.Numbering.{misfit_read, misfit_told}
use Rattle.cob_program_map.proofs.record.convert_found.Goals as goal

pub returns-in-Err-clause-stops : goal.returns-in-Err-clause-stops
returns-in-Err-clause-stops c =
    misfit_told c.args.conversion.now c.args.input.now c.args.number c.in-Err.why c.at.result (ap (λ (f : RunFault). f.number) c.at.ensures)
    (ap reason_of c.at.ensures) c.in-Err.ensures.misfit

pub returns-in-Err-clause-kind : goal.returns-in-Err-clause-kind
returns-in-Err-clause-kind c =
    misfit_read c.args.conversion.now c.args.input.now c.in-Err.why c.at.result (ap reason_of c.at.ensures) c.in-Err.ensures.misfit

pub returns-in-Err-convert-clause-stops : goal.returns-in-Err-convert-clause-stops
returns-in-Err-convert-clause-stops c = (
  ap (λ (f : RunFault). f.number) c.at-in-Err-convert.ensures,
  ByConversion c.in-Err-convert.stop (search rules) c.in-Err-convert.ensures.stops (ap reason_of c.at-in-Err-convert.ensures ∙ c.stop_reason.ensures.reason),
)
