use Rattle.cob_picture.specs.Positions.{shows_number}
use Rattle.cob_move_initial.proofs.ItemLemmas.{zero_given}
use Rattle.cob_move_initial.proofs.items.clear.Goals as goal

pub move_constant-requires-clause-number : goal.move_constant-requires-clause-number
move_constant-requires-clause-number c = zero_given (shows_number c.args.item.now.picture.category) c.figurative_for.result c.figurative_for.ensures
