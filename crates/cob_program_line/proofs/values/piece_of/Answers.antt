use Rattle.std.proofs.Common.{inl, inr, ◌∙◌}
use Rattle.cob_program_options.specs.Looks.{look_of}
use Rattle.cob_program_line.specs.declared.fault.LineFault.TheVariants.{Piece}
use Rattle.cob_program_line.proofs.Apps.{fault_is, told}
use Rattle.cob_program_line.proofs.values.piece_of.Goals as goal

pub returns-in_err-from-clause-fault : goal.returns-in_err-from-clause-fault
returns-in_err-from-clause-fault c =
    told c.from_residual.result _ _ (λ fault is. fault_is (look_of c.args.options.now) fault Piece (is ∙ c.in_err-from.ensures.fault.0) (c.requires.before, inl c.in_err-from.ensures.fault.1)) c.from_residual.ensures.1

pub returns-in_err-bytes-clause-fault : goal.returns-in_err-bytes-clause-fault
returns-in_err-bytes-clause-fault c =
    told c.from_residual-in_err-bytes.result _ _ (λ fault is. fault_is (look_of c.args.options.now) fault Piece (is ∙ c.in_err-bytes.ensures.fault.0) (c.requires.before, inr (inl c.in_err-bytes.ensures.fault.1))) c.from_residual-in_err-bytes.ensures.1

pub returns-in_err-first-clause-lacks : goal.returns-in_err-first-clause-lacks
returns-in_err-first-clause-lacks c =
    told c.from_residual-in_err-first.result _ _ (λ fault is from bytes first says. c.in_err-first.ensures.lacks first says.number) c.from_residual-in_err-first.ensures.1
