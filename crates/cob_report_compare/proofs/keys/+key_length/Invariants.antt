use Rattle.std.proofs.Common.{length}
use Rattle.cob_report_compare.proofs.keys.+key_length.Given as goal

abbrev pub decreases-key_length : goal.decreases-key_length
decreases-key_length l = length l.keys.now
