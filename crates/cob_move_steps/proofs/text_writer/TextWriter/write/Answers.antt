use Rattle.std.proofs.Common.{◌≡◌, ◌==◌, ◌<◌, ◌≤◌, ℕ, List, length, take, sym, ap, subst, ◌∙◌, arith}
use Rattle.std.specs.List.{prefix_len}
use Rattle.cob_picture.specs.Counts.{digits, scale}
use Rattle.cob_edit.specs.Pictured.{IsEdited}
use Rattle.cob_codec_lanes.specs.declared.text.WideText.{WideText}
use Rattle.cob_move_steps.specs.Texts.{IsWideTextFor}
use Rattle.cob_move_steps.proofs.TextLemmas.{wide_text_at}
use Rattle.cob_move_steps.proofs.text_writer.TextWriter.write.Goals as goal

pub returns : goal.returns
returns c = λ to is size led.
    let w = c.args.self.now in
    let lanes : List ℕ = c.args.digits in
    let count : ℕ = digits to.picture.positions in
    let zeros : ℕ = c.zeros_in_front-zeros.result in
    let text : WideText = c.index.result.now in
    let inside : zeros < length w.texts.items = omega (arith, w.texts.ok.0, w.each, c.zeros_in_front-zeros.ensures.within) in
    let right : IsWideTextFor to zeros text = subst (λ t. IsWideTextFor to zeros t) (sym c.index.ensures) (wide_text_at to w.texts.items zeros text is.texts inside) in
    let few : w.digits ≤ length lanes = omega (arith, is.count, is.few, led.long) in
    let front : zeros ≡ prefix_len (λ d. d == 0) (take count lanes) = c.zeros_in_front-zeros.ensures.value few ∙ ap (λ n. prefix_len (λ d. d == 0) (take n lanes)) is.count in
    let made = c.write.ensures.made in
    subst (λ xs. IsEdited to.picture to.blank c.args.minus (take count lanes) (scale to.picture.positions) xs) (ap (λ m. take m made.0) (sym size) ∙ sym made.2)
    (right.text c.args.minus lanes made.0 led (sym front) made.1)
