use Rattle.std.proofs.Common.{arith}
use Rattle.cob_move_apply.proofs.CountLemmas.{pairs_alone}
use Rattle.cob_move_apply.proofs.moves.single_moves_in.Goals as goal

pub returns-in-Pairs : goal.returns-in-Pairs
returns-in-Pairs c x r =
    rw c.in-Pairs.is (omega (arith, c.len-in-Pairs.ensures, c.in-Pairs.group.pairs.ok.0, pairs_alone x r c.in-Pairs.group c.in-Pairs.group.pairs.items))
