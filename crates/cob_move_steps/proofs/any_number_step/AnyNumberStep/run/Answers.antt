use Rattle.std.proofs.Common.{length}
use Rattle.cob_move_steps.proofs.AnyNumberLemmas.{moved_number, no_number_moved}
use Rattle.cob_move_steps.proofs.any_number_step.AnyNumberStep.run.Goals as goal

pub returns-then-not-read-clause-gets : goal.returns-then-not-read-clause-gets
returns-then-not-read-clause-gets c = λ s r is within size reading suits.
    no_number_moved s r c.args.self.now.writer reading c.args.from.now c.read-read.result.is_number c.read-read.result.minus c.read-read.result.digits c.args.to.now (length c.args.to.now)
    is.writer is.reader.sends c.if-not-read.true (c.read-read.ensures s r reading is.reader suits within)

pub returns-clause-gets : goal.returns-clause-gets
returns-clause-gets c = λ s r is within size reading suits.
    let left = c.keeps_minus-minus.ensures in
    moved_number s r c.args.self.now.writer reading c.args.from.now c.read-read.result.is_number c.read-read.result.minus c.keeps_minus-minus.result left.0 c.read-read.result.digits c.write.new.to (length c.args.to.now)
    is.writer size c.if-not-read.false (c.read-read.ensures s r reading is.reader suits within) left.1 left.2 (c.write.ensures r is.writer size)
