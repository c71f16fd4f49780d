use Rattle.std.proofs.Common.{◌-ℤ◌, length}
use Rattle.cob_picture.specs.Counts.{digits, scale}
use Rattle.cob_copybook_tree.specs.Lengths.{item_size}
use Rattle.cob_codec_lanes.specs.Windows.{last_bytes}
use Rattle.cob_move_steps.specs.Ends.{GivesSigned}
use Rattle.cob_move_steps.proofs.EditLemmas.{edited_as, led_by, not_edited}
use Rattle.cob_move_steps.proofs.wide_edit_step.WideEditStep.run.Goals as goal

pub returns-then-not-read-clause-gets : goal.returns-then-not-read-clause-gets
returns-then-not-read-clause-gets c = λ s r is within size reading suits.
    not_edited s r reading c.args.from.now c.read-read.result.is_number c.read-read.result.minus c.read-read.result.digits c.args.to.now (length c.args.to.now)
    is.writer.receives is.reader.sends c.if-not-read.true (c.read-read.ensures s r reading is.reader suits within)

pub returns-clause-gets : goal.returns-clause-gets
returns-clause-gets c = λ s r is within size reading suits.
    let told = c.read-read.result in
    let bytes = c.args.from.now in
    let read = c.read-read.ensures s r reading is.reader suits within in
    let led = led_by (GivesSigned reading s (last_bytes (item_size s) bytes)) (digits r.picture.positions) (scale r.picture.positions -ℤ scale s.picture.positions) told.is_number told.minus told.digits c.if-not-read.false read in
    edited_as s r reading bytes told.is_number told.minus told.digits c.write.new.to (length c.args.to.now) is.writer.receives is.writer.few c.if-not-read.false read (c.write.ensures r is.writer size led)
