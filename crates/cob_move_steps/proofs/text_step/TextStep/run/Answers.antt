use Rattle.std.proofs.Common.{◌-ℤ◌, length, subst}
use Rattle.cob_picture.specs.Counts.{digits, scale}
use Rattle.cob_copybook_tree.specs.Lengths.{item_size}
use Rattle.cob_codec_lanes.specs.Windows.{last_bytes}
use Rattle.cob_move_steps.specs.Deedits.{IsReceiverWriterFor}
use Rattle.cob_move_steps.specs.Edits.{IsTextWriterFor}
use Rattle.cob_move_steps.specs.Ends.{GivesSigned, IsNumberWriterFor}
use Rattle.cob_move_steps.proofs.AnyNumberLemmas.{moved_number}
use Rattle.cob_move_steps.proofs.TextStepLemmas.{no_text_moved}
use Rattle.cob_move_steps.proofs.EditLemmas.{edited_as, led_by}
use Rattle.cob_move_steps.proofs.text_step.TextStep.run.Goals as goal

pub returns-then-not-read-clause-gets : goal.returns-then-not-read-clause-gets
returns-then-not-read-clause-gets c = λ s r is within size reading keeps.
    let told = c.read-read.result in
    no_text_moved s r c.args.self.now reading c.args.from.now told.is_number told.minus told.digits c.args.to.now (length c.args.to.now) is c.if-not-read.true (c.read-read.ensures s r reading is.reader within)

pub returns-in-Number-clause-gets : goal.returns-in-Number-clause-gets
returns-in-Number-clause-gets c = λ s r is within size reading keeps.
    let told = c.read-read.result in
    let left = c.keeps_minus.ensures in
    let w : IsNumberWriterFor r c.in-Number.writer = subst (λ w. IsReceiverWriterFor r w) c.in-Number.is is.writer in
    moved_number s r c.in-Number.writer reading c.args.from.now told.is_number told.minus c.keeps_minus.result left.0 told.digits c.write_number.new.to (length c.args.to.now)
    w size c.if-not-read.false (c.read-read.ensures s r reading is.reader within) left.1 left.2 (c.write_number.ensures r w size)

pub returns-in-Text-clause-gets : goal.returns-in-Text-clause-gets
returns-in-Text-clause-gets c = λ s r is within size reading keeps.
    let told = c.read-read.result in
    let bytes = c.args.from.now in
    let read = c.read-read.ensures s r reading is.reader within in
    let w : IsTextWriterFor r c.in-Text.writer = subst (λ w. IsReceiverWriterFor r w) c.in-Text.is is.writer in
    let led = led_by (GivesSigned reading s (last_bytes (item_size s) bytes)) (digits r.picture.positions) (scale r.picture.positions -ℤ scale s.picture.positions) told.is_number told.minus told.digits c.if-not-read.false read in
    edited_as s r reading bytes told.is_number told.minus told.digits c.write.new.to (length c.args.to.now) w.receives w.few c.if-not-read.false read (c.write.ensures r w size led)
