use Rattle.std.proofs.Common.{length}
use Rattle.cob_report_compare.proofs.keys.+order_of_keys.Given as goal

abbrev pub decreases-order_of_keys : goal.decreases-order_of_keys
decreases-order_of_keys l = length l.keys.now
