use Rattle.cob_move_data.specs.Singles.{operand_at, plain_element}
use Rattle.cob_move_apply.proofs.SeenLemmas.{there}
use Rattle.cob_back_moves.proofs.single.kind_of.Goals as goal

pub kind-requires : goal.kind-requires
kind-requires c = record { there = there c.args.layout.now (operand_at c.args.layout.now (plain_element c.args.element.now)) c.requires.sound.numbered c.requires.operand }
