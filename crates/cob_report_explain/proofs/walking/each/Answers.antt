use Rattle.cob_report_explain.specs.Each.{each_ending}
use Rattle.cob_report_explain.specs.Seen.{records_of_layouts}
use Rattle.cob_report_explain.proofs.LawLemmas.{applied_all}
use Rattle.cob_report_explain.proofs.walking.each.Goals as goal

pub returns-clause-applied : goal.returns-clause-applied
returns-clause-applied g c =
    let (ones, seen, are) = c.walk_all.ensures.seen in
    applied_all c.args.layouts.now.reading (records_of_layouts c.args.layouts.now) c.args.statements.now c.args.input.now c.args.output.now ones (each_ending c.walk_all.result c.walk_all.new.output) are
