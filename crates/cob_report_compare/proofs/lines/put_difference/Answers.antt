use Rattle.std.proofs.Common.{ap}
use Rattle.cob_report_compare.specs.Differences.{listed_item}
use Rattle.cob_report_compare.proofs.PrintLemmas.{has_item}
use Rattle.cob_report_compare.proofs.lines.put_difference.Goals as goal

pub unreachable-requires : goal.unreachable-requires
unreachable-requires g c = has_item _ _ _ c.requires (ap listed_item c.in-None.is)
