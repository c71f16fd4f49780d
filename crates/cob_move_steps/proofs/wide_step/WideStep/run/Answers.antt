use Rattle.std.proofs.Common.{length, ◌-ℤ◌}
use Rattle.cob_picture.specs.Counts.{scale}
use Rattle.cob_copybook_tree.specs.Lengths.{item_size}
use Rattle.cob_codec_lanes.specs.Windows.{last_bytes}
use Rattle.cob_move_steps.proofs.StepLemmas.{item_read}
use Rattle.cob_move_steps.proofs.WideStepLemmas.{moved_wide, not_moved_wide}
use Rattle.cob_move_steps.proofs.wide_step.WideStep.run.Goals as goal

pub returns-then-not-back-clause-gets : goal.returns-then-not-back-clause-gets
returns-then-not-back-clause-gets c = λ s r is within size reading keeps.
    let bytes = c.args.from.now in
    let back = c.read-back.result in
    let shift = scale r.picture.positions -ℤ scale s.picture.positions in
    not_moved_wide s r c.args.self.now reading (last_bytes (item_size s) bytes) back.digits c.args.to.now back.is_number back.minus (length c.args.to.now) is c.if-not-back.true
    (item_read s reading 16 shift c.args.self.now.back bytes back.digits back.is_number back.minus is.back keeps within c.read-back.ensures)

pub returns-clause-gets : goal.returns-clause-gets
returns-clause-gets c = λ s r is within size reading keeps.
    let step = c.args.self.now in
    let bytes = c.args.from.now in
    let back = c.read-back.result in
    let shift = scale r.picture.positions -ℤ scale s.picture.positions in
    let left = c.keeps_minus_of_both-minus.ensures in
    let made = c.write.ensures.made in
    moved_wide s r step reading bytes c.take-front.result back.digits made.0 c.write.new.out back.is_number back.minus c.keeps_minus_of_both-minus.result left.0 (length c.args.to.now)
    c.one_sent_number.ensures is keeps within size c.if-not-back.false c.take-front.ensures
    (item_read s reading 16 shift step.back bytes back.digits back.is_number back.minus is.back keeps within c.read-back.ensures)
    left.1 left.2 made.1 made.2
