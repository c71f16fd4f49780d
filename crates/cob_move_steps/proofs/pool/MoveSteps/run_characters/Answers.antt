use Rattle.std.proofs.Common.{length}
use Rattle.cob_move_steps.proofs.PoolLemmas.{characters_received}
use Rattle.cob_move_steps.proofs.pool.MoveSteps.run_characters.Goals as goal

pub returns : goal.returns
returns c = λ k is within same. characters_received k c.args.step (length c.args.to.now) c.args.from.now c.run.new.to is.between same c.run.ensures
