use Rattle.std.proofs.Common.{length}
use Rattle.cob_report_compare.proofs.headings.+put_keys.Given as goal

abbrev pub decreases-put_keys : goal.decreases-put_keys
decreases-put_keys g l = length l.keys.now
