use Rattle.cob_convert.proofs.outcome.converted.Goals as goal

pub returns-in-Err-clause-rejects : goal.returns-in-Err-clause-rejects
returns-in-Err-clause-rejects c = c.reason_of.ensures c.args.conversion.now c.args.input.now c.in-Err.ensures.rejects
