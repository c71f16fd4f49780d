use Rattle.std.proofs.Common.{length}
use Rattle.cob_report_compare.proofs.keys.+take_key.Given as goal

abbrev pub decreases-take_key : goal.decreases-take_key
decreases-take_key l = length l.keys.now
