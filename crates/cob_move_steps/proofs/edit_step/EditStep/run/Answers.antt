use Rattle.std.proofs.Common.{◌≡◌, ◌==◌, ◌<◌, ◌≤◌, ℕ, List, length, take, sym, ap, subst, ◌∙◌, arith}
use Rattle.std.specs.List.{prefix_len}
use Rattle.cob_picture.specs.Counts.{digits}
use Rattle.cob_codec_lanes.specs.Texts.{AreShown}
use Rattle.cob_codec_lanes.specs.declared.text.LaneText.{LaneText}
use Rattle.cob_move_steps.specs.Texts.{IsTextFor}
use Rattle.cob_move_steps.proofs.EditLemmas.{edited, not_edited}
use Rattle.cob_move_steps.proofs.StepLemmas.{not_false}
use Rattle.cob_move_steps.proofs.TextLemmas.{text_at}
use Rattle.cob_move_steps.proofs.edit_step.EditStep.run.Goals as goal

pub returns-then-not-read-clause-gets : goal.returns-then-not-read-clause-gets
returns-then-not-read-clause-gets c = λ s r is within size reading suits.
    not_edited s r reading c.args.from.now c.read-read.result.is_number c.read-read.result.minus c.read-read.result.digits c.args.to.now (length c.args.to.now)
    is.receives is.reader.sends c.if-not-read.true (c.read-read.ensures s r reading is.reader suits within)

pub returns-clause-gets : goal.returns-clause-gets
returns-clause-gets c = λ s r is within size reading suits.
    let step = c.args.self.now in
    let kept : List ℕ = c.read-read.result.digits in
    let zeros : ℕ = c.zeros_in_front-zeros.result in
    let text : LaneText = c.index.result.now in
    let inside : zeros < length step.texts.items = omega (arith, step.texts.ok.0, step.each, c.zeros_in_front-zeros.ensures.within) in
    let right : IsTextFor r zeros text = subst (λ t. IsTextFor r zeros t) (sym c.index.ensures) (text_at r step.texts.items zeros text is.texts inside) in
    let read = c.read-read.ensures s r reading is.reader suits within in
    let few : step.digits ≤ length kept = omega (arith, is.count, is.few, (read.number (not_false c.read-read.result.is_number c.if-not-read.false)).held.long) in
    let front : zeros ≡ prefix_len (λ d. d == 0) (take (digits r.picture.positions) kept) =
    c.zeros_in_front-zeros.ensures.value few ∙ ap (λ n. prefix_len (λ d. d == 0) (take n kept)) is.count in
    let made = c.write.ensures.made in
    edited s r reading c.args.from.now c.read-read.result.is_number c.read-read.result.minus kept made.0 c.write.new.out (AreShown text) (length c.args.to.now) zeros
    is.receives is.few size c.if-not-read.false read right front made.1 made.2
