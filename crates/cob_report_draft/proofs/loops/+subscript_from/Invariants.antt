use Rattle.std.proofs.Common.{length}
use Rattle.cob_report_draft.proofs.loops.+subscript_from.Given as goal

abbrev pub decreases-subscript_from : goal.decreases-subscript_from
decreases-subscript_from l = length l.loops.now
