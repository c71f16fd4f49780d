use Rattle.std.proofs.Common.{length}
use Rattle.cob_move_steps.proofs.StepLemmas.{moved, not_moved}
use Rattle.cob_move_steps.proofs.step.NumberStep.run.Goals as goal

pub returns-then-not-read-clause-gets : goal.returns-then-not-read-clause-gets
returns-then-not-read-clause-gets c = λ s r is within size reading keeps.
    not_moved s r c.args.self.now reading c.args.from.now c.read-read.result.is_number c.read-read.result.minus c.read-read.result.digits c.args.to.now (length c.args.to.now)
    is keeps within c.if-not-read.true c.read-read.ensures

pub returns-clause-gets : goal.returns-clause-gets
returns-clause-gets c = λ s r is within size reading keeps.
    let left = c.keeps_minus-minus.ensures in
    let made = c.write.ensures.made in
    moved s r c.args.self.now reading c.args.from.now c.read-read.result.is_number c.read-read.result.minus c.keeps_minus-minus.result left.0 c.read-read.result.digits made.0 c.write.new.out (length c.args.to.now)
    is keeps within size c.if-not-read.false c.read-read.ensures left.1 left.2 made.1 made.2
