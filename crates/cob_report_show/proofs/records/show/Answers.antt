-- Where memory is refused nothing was read or written.
use Rattle.std.proofs.Common.{rules}
use Rattle.cob_report_show.proofs.RunLemmas.{unshown}
use Rattle.cob_report_show.proofs.records.show.Goals as goal

pub returns-in_err-bytes-clause-shows : goal.returns-in_err-bytes-clause-shows
returns-in_err-bytes-clause-shows g c = unshown c.args.form c.args.layout.now c.from_residual.result _ _ (search rules)

pub returns-in_err-places-clause-shows : goal.returns-in_err-places-clause-shows
returns-in_err-places-clause-shows g c = unshown c.args.form c.args.layout.now c.from_residual-in_err-places.result _ _ (search rules)

pub returns-in_err-items-clause-shows : goal.returns-in_err-items-clause-shows
returns-in_err-items-clause-shows g c = unshown c.args.form c.args.layout.now c.from_residual-in_err-items.result _ _ (search rules)
