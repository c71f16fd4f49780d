use Rattle.std.proofs.Common.{map}
use Rattle.cob_report_show.specs.Elements.{named_item}
use Rattle.cob_report_compare.specs.Files.{form_on}
use Rattle.cob_report_compare.proofs.HeadLemmas.{head_stays}
use Rattle.cob_report_compare.proofs.heads.fill.Goals as goal

pub returns-in-Ended-clause-next : goal.returns-in-Ended-clause-next
returns-in-Ended-clause-next g c =
    head_stays (form_on c.args.files c.args.side) c.args.files.layout.now (map named_item c.args.files.keys.now) c.args.reached c.args.room.now _ (λ is. absurd (cc))

pub returns-in-Waits-clause-next : goal.returns-in-Waits-clause-next
returns-in-Waits-clause-next g c =
    head_stays (form_on c.args.files c.args.side) c.args.files.layout.now (map named_item c.args.files.keys.now) c.args.reached c.args.room.now _ (λ is. absurd (cc))
