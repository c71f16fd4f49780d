use Rattle.std.proofs.Common.{◌≡◌, ◌==◌, ◌<◌, ℕ, List, length, take, sym, ap, subst, ◌∙◌, arith}
use Rattle.std.specs.List.{prefix_len}
use Rattle.cob_picture.specs.Counts.{scale}
use Rattle.cob_edit.specs.Pictured.{IsEdited}
use Rattle.cob_codec_lanes.specs.declared.long_text.LongText.{LongText}
use Rattle.cob_move_steps.specs.Ends.{item_digits}
use Rattle.cob_move_steps.specs.LongDigits.{long_digits}
use Rattle.cob_move_steps.specs.LongTexts.{IsLongTextFor}
use Rattle.cob_move_steps.proofs.LongTextLemmas.{long_text_at}
use Rattle.cob_move_steps.proofs.long_text_writer.LongTextWriter.write.Goals as goal

pub returns-then-to-le48 : goal.returns-then-to-le48
returns-then-to-le48 c = λ to is size tens more.
    let w = c.args.self.now in
    let front : List ℕ = c.args.front in
    let back : List ℕ = c.args.back in
    let count : ℕ = item_digits to in
    let zeros : ℕ = c.zeros_of_both-zeros.result in
    let text : LongText = c.index.result.now in
    let inside : zeros < length w.texts.items = omega (arith, w.texts.ok.0, w.each, c.zeros_of_both-zeros.ensures.within) in
    let right : IsLongTextFor to zeros text = subst (λ t. IsLongTextFor to zeros t) (sym c.index.ensures) (long_text_at to w.texts.items zeros text is.texts inside) in
    let lead : zeros ≡ prefix_len (λ d. d == 0) (long_digits count front back) = c.zeros_of_both-zeros.ensures.value ∙ ap (λ n. prefix_len (λ d. d == 0) (long_digits n front back)) is.count in
    let made = c.write.ensures.made in
    subst (λ xs. IsEdited to.picture to.blank c.args.minus (long_digits count front back) (scale to.picture.positions) xs) (ap (λ m. take m made.0) (sym size) ∙ sym made.2)
    (right c.args.minus front back made.0 c.fits-front.0 c.fits-back.0 tens more (sym lead) made.1)

pub returns-else-to-le48 : goal.returns-else-to-le48
returns-else-to-le48 c = λ to is size tens more. absurd (omega (arith, c.if-to-le48.false, is.edited.fits, size))
