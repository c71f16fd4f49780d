use Rattle.cob_move_names.proofs.sending.SendingRecord.list.Goals as goal

pub returns : goal.returns
returns c = rw c.as_slice.ensures.value (c.args.self.now.kept c.args.from c.args.to c.index.result.now c.index.ensures)
