use Rattle.std.proofs.Common.{length}
use Rattle.cob_report_words.proofs.occurrences.+advance.Given as goal

abbrev pub decreases-advance : goal.decreases-advance
decreases-advance l = length l.subscripts.now
