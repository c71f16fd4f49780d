use Rattle.cob_copybook_entry.specs.Described.{plain_value}
use Rattle.cob_move_initial.proofs.ItemLemmas.{some_number}
use Rattle.cob_move_initial.proofs.items.write_number.Goals as goal

pub move_constant-requires-clause-number : goal.move_constant-requires-clause-number
move_constant-requires-clause-number c = λ shows. some_number c.args.item.now.picture (plain_value c.args.value.now) c.requires.fits
