use Rattle.std.proofs.Common.{refl}
use Rattle.std.proofs.lemmas.Result.{err_from_is_err_and}
use Rattle.cob_copybook_clauses.specs.Written.{written_entry}
use Rattle.cob_copybook_entries.proofs.Breaking.{table_breaks, constant_breaks}
use Rattle.cob_copybook_entries.proofs.meaning.entry_of.Goals as goal

pub returns-in_err-occurs-clause-fault : goal.returns-in_err-occurs-clause-fault
returns-in_err-occurs-clause-fault c =
    let p = err_from_is_err_and c.from_residual-in_err-occurs.result c.from_residual-in_err-occurs.ensures.1 in
    rw (p.1, p.2) (table_breaks _ _ (written_entry c.args.written.now) refl c.in_err-occurs.ensures.fault)

pub returns-in_err-value-clause-fault : goal.returns-in_err-value-clause-fault
returns-in_err-value-clause-fault c =
    let p = err_from_is_err_and c.from_residual-in_err-value.result c.from_residual-in_err-value.ensures.1 in
    rw (p.1, p.2) (constant_breaks _ _ (written_entry c.args.written.now) refl c.in_err-value.ensures.fault)
