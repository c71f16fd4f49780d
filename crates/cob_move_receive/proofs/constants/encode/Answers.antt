use Rattle.std.proofs.Common.{ℕ, get_or, arith}
use Rattle.cob_move_receive.specs.Characters.{IsByteOf}
use Rattle.cob_move_receive.proofs.CharacterLemmas.{one_more, each_byte}
use Rattle.cob_move_receive.proofs.constants.encode.Goals as goal

pub loop-at-preserved : goal.loop-at-preserved
loop-at-preserved c =
    one_more (λ (k byte : ℕ). IsByteOf (get_or c.args.text.now k 0) byte) c.loop-at.bytes c.loop-at.at c.byte_of.result (omega arith) c.loop-at.invariant c.byte_of.ensures

pub returns : goal.returns
returns c =
    each_byte c.args.text.now c.loop-at.bytes (omega arith) (λ k lt. c.loop-at.invariant k (omega arith))
