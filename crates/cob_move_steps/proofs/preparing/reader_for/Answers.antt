use Rattle.cob_move_steps.proofs.KindLemmas.{reader_as}
use Rattle.cob_move_steps.proofs.preparing.reader_for.Goals as goal

pub returns : goal.returns
returns c =
    let wanted = c.wanted_of.result in
    reader_as c.args.sender.now wanted.digits _ wanted.shift _ c.item_reader.result c.wanted_of.ensures.digits c.wanted_of.ensures.shift c.item_reader.ensures
