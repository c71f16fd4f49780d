use Rattle.std.proofs.Common.{length}
use Rattle.cob_move_receive.proofs.ConstantLemmas.{padded_same}
use Rattle.cob_move_receive.proofs.constants.fill_left.Goals as goal

pub returns : goal.returns
returns c = (c.repeat.new.bytes, c.repeat.ensures.gives, padded_same (length c.args.bytes.now) c.repeat.new.bytes c.repeat.ensures.room)
