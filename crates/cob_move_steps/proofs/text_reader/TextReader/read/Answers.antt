use Rattle.std.proofs.Common.{◌≡◌, ◌↔◌, ◌==◌, ◌<◌, ◌≤◌, ◌-◌, ◌-ℤ◌, ℕ, List, IsTrue, length, take, sym, ap, subst, ◌∙◌, arith}
use Rattle.std.specs.List.{prefix_len}
use Rattle.std.proofs.lemmas.List.{length-drop}
use Rattle.cob_picture.specs.Counts.{scale}
use Rattle.cob_copybook_tree.specs.Lengths.{item_size}
use Rattle.cob_edit.specs.Pictured.{places}
use Rattle.cob_codec_lanes.specs.Texts.{all_lanes, AreDigitsAt, padded_text}
use Rattle.cob_codec_lanes.specs.Windows.{last_bytes}
use Rattle.cob_codec_lanes.specs.declared.text.WideText.{WideText}
use Rattle.cob_move_steps.specs.Ends.{item_digits}
use Rattle.cob_move_steps.specs.Texts.{AreLed, digit_bytes_from, IsWideTextFor}
use Rattle.cob_move_steps.proofs.DeeditLemmas.{AreCompared, led, text_read}
use Rattle.cob_move_steps.proofs.TextLemmas.{wide_text_at}
use Rattle.cob_move_steps.proofs.text_reader.TextReader.read.Goals as goal

pub returns : goal.returns
returns c = λ from to reading is within.
    let r = c.args.self.now in
    let bytes : List ℕ = c.args.bytes.now in
    let item : List ℕ = last_bytes (item_size from) bytes in
    let lanes : List ℕ = c.digits-digits.result in
    let zeros : ℕ = c.zeros_in_front-zeros.result in
    let own : WideText = c.index-own.result.now in
    let told = c.is_either.result in
    let shift = scale to.picture.positions -ℤ scale from.picture.positions in
    let text : all_lanes c.last_text-text.result ≡ padded_text item = c.last_text-text.ensures ∙ ap (λ n. padded_text (last_bytes n bytes)) is.size in
    let taken : AreDigitsAt (digit_bytes_from 0 (places from.picture.positions)) (padded_text item) lanes =
    subst (λ xs. AreDigitsAt (digit_bytes_from 0 (places from.picture.positions)) xs lanes) text (c.digits-digits.ensures (digit_bytes_from 0 (places from.picture.positions)) is.places) in
    let inside : zeros < length r.texts.items = omega (arith, r.texts.ok.0, r.each, c.zeros_in_front-zeros.ensures.within) in
    let right : IsWideTextFor from zeros own = subst (λ t. IsWideTextFor from zeros t) (sym c.index-own.ensures) (wide_text_at from r.texts.items zeros own is.texts inside) in
    let few : r.digits ≤ length lanes = omega (arith, is.count, is.edited.few, taken.long) in
    let front : zeros ≡ prefix_len (λ d. d == 0) (take (item_digits from) lanes) = c.zeros_in_front-zeros.ensures.value few ∙ ap (λ n. prefix_len (λ d. d == 0) (take n lanes)) is.count in
    let compared : AreCompared from item lanes zeros own = record {
      edited = is.edited;
      long = omega (arith, length-drop (length bytes - item_size from) bytes, within);
      taken = taken;
      text = right;
      front = front;
    } in
    let ours : AreLed (item_digits from) lanes = led from item lanes zeros own compared in
    let plain = c.is-plus.ensures in
    text_read from to reading item lanes c.keep.result plain.0 zeros own c.is-plus.result told compared plain.1
    (subst (λ xs. IsTrue c.is-plus.result ↔ (plain.0 ≡ xs)) text plain.2)
    c.is_either.ensures.plus
    (λ e. let made = c.is_either.ensures.minus e in (made.0, made.1, subst (λ xs. IsTrue told ↔ (made.0 ≡ xs)) text made.2))
    (c.keep.ensures (item_digits from) (item_digits to) shift is.kept ours.tens)
