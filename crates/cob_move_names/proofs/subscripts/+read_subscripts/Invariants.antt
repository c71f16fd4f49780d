use Rattle.std.proofs.Common.{length}
use Rattle.cob_move_names.proofs.subscripts.+read_subscripts.Given as goal

abbrev pub decreases-read_subscripts : goal.decreases-read_subscripts
decreases-read_subscripts l = length l.tables.now
