use Rattle.std.proofs.Common.{arith, refl}
use Rattle.cob_layout.proofs.SummedLemmas.{moves_by}
use Rattle.cob_layout.proofs.summed.moved_by.Goals as goal

pub returns-in-Some : goal.returns-in-Some
returns-in-Some c =
    moves_by c.args.shift c.args.spot c.args.least c.args.subscript c.least_times.result c.saturating_sub-before.result c.in-Some.further c.least_times.ensures (omega arith) c.saturating_sub-before.ensures (c.if-not-are_as_long.ensures refl) c.in-Some.ensures.1
