use Rattle.cob_move_receive.proofs.NumberLemmas.{unedited_only}
use Rattle.cob_move_receive.proofs.numbers.unedited.Goals as goal

pub returns-clause-only : goal.returns-clause-only
returns-clause-only c = unedited_only c.args.item.now c.args.bytes.now c.deedit.result c.deedit.ensures.only
