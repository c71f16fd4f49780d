use Rattle.cob_report_refusals.proofs.Walking.{entry_wider, first_told}
use Rattle.cob_report_refusals.proofs.books.parted.Goals as goal

pub returns-in-Some-clause-entry : goal.returns-in-Some-clause-entry
returns-in-Some-clause-entry c = λ text all.
    let head = c.in-Some.head.now in
    entry_wider text head.fault.rule c.args.first.now.rule head.from (c.is_of.ensures c.if-is_of.true) (first_told text head _ c.args.found.now c.in-Some.ensures.cases.0 all)
