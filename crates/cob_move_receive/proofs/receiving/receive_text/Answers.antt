use Rattle.std.proofs.Common.{refl}
use Rattle.cob_move_receive.proofs.receiving.receive_text.Goals as goal

pub returns-in-Group-clause-gets : goal.returns-in-Group-clause-gets
returns-in-Group-clause-gets c = rw (c.in-Entry.is, c.in-Group.is) (c.in-Entry.source.now, refl, c.put_left.ensures)
