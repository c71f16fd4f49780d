use Rattle.std.proofs.Common.{◌≡◌, ◌↔◌, ◌==◌, ◌<◌, ◌-◌, ℕ, List, IsTrue, length, take, drop, sym, ap, subst, ◌∙◌, arith, pos}
use Rattle.std.specs.List.{prefix_len}
use Rattle.std.proofs.lemmas.List.{length-drop}
use Rattle.cob_decimal.specs.Decimal.{number_of}
use Rattle.cob_copybook_tree.specs.Lengths.{item_size}
use Rattle.cob_codec_lanes.specs.LongPlaces.{all_long_lanes, padded_long_text}
use Rattle.cob_codec_lanes.specs.Texts.{AreDigitsAt}
use Rattle.cob_codec_lanes.specs.Wide.{AreHeldWide}
use Rattle.cob_codec_lanes.specs.Windows.{last_bytes}
use Rattle.cob_codec_lanes.specs.declared.long_text.LongText.{LongText}
use Rattle.cob_move_steps.specs.Ends.{item_digits}
use Rattle.cob_move_steps.specs.LongDigits.{last_count, long_digits}
use Rattle.cob_move_steps.specs.LongReads.{IsPaddedBehind, bytes_of_digits}
use Rattle.cob_move_steps.specs.LongTexts.{IsLongTextFor}
use Rattle.cob_move_steps.proofs.LongReadLemmas.{AreLongCompared, back_tens, front_tens, held_behind, long_text_read}
use Rattle.cob_move_steps.proofs.LongTextLemmas.{behind_at, long_text_at}
use Rattle.cob_move_steps.proofs.long_text_reader.LongTextReader.read.Goals as goal

pub returns : goal.returns
returns c = λ from reading is within.
    let r = c.args.self.now in
    let bytes : List ℕ = c.args.bytes.now in
    let item : List ℕ = last_bytes (item_size from) bytes in
    let count : ℕ = item_digits from in
    let front : List ℕ = c.digits-front.result in
    let back : List ℕ = c.digits-back.result in
    let zeros : ℕ = c.zeros_of_both.result in
    let own : LongText = c.index-own.result.now in
    let told = c.is_either.result in
    let text : all_long_lanes c.last_long_text-text.result ≡ padded_long_text item = c.last_long_text-text.ensures ∙ ap (λ n. padded_long_text (last_bytes n bytes)) is.size in
    let lead : List ℕ = take (count - 16) (bytes_of_digits from) in
    let rest : List ℕ = drop (count - 16) (bytes_of_digits from) in
    let first : AreDigitsAt lead (padded_long_text item) front = subst (λ xs. AreDigitsAt lead xs front) text (c.digits-front.ensures lead is.places.front) in
    let last : AreDigitsAt rest (padded_long_text item) back = subst (λ xs. AreDigitsAt rest xs back) text (c.digits-back.ensures rest is.places.back) in
    let inside : zeros < length r.texts.items = omega (arith, r.texts.ok.0, r.each, c.zeros_of_both.ensures.within) in
    let right : IsLongTextFor from zeros own = subst (λ t. IsLongTextFor from zeros t) (sym c.index-own.ensures) (long_text_at from r.texts.items zeros own is.texts inside) in
    let behind : IsPaddedBehind from own = subst (λ t. IsPaddedBehind from t) (sym c.index-own.ensures) (behind_at from r.texts.items zeros own is.padded inside) in
    let compared : AreLongCompared from item front back zeros own = record {
      edited = is.edited;
      long = omega (arith, length-drop (length bytes - item_size from) bytes, within);
      first = first;
      last = last;
      text = right;
      padded = behind;
      led = c.zeros_of_both.ensures.value ∙ ap (λ n. prefix_len (λ d. d == 0) (long_digits n front back)) is.count;
    } in
    let held : AreHeldWide (number_of (long_digits count front back)) c.keep.result c.keep-2.result =
    held_behind count front back c.keep.result c.keep-2.result is.edited.few is.back.few first.long last.long
    (front_tens from item front back zeros own compared) (back_tens from item front back zeros own compared)
    (c.keep.ensures (count - 16) 16 (pos 0) is.front (front_tens from item front back zeros own compared))
    (c.keep-2.ensures (last_count count) 16 (pos 0) is.back (back_tens from item front back zeros own compared)) in
    let plain = c.is-plus.ensures in
    long_text_read from reading item front back c.keep.result c.keep-2.result plain.0 zeros own c.is-plus.result told compared plain.1
    (subst (λ xs. IsTrue c.is-plus.result ↔ (plain.0 ≡ xs)) text plain.2)
    c.is_either.ensures.plus
    (λ e. let made = c.is_either.ensures.minus e in (made.0, made.1, subst (λ xs. IsTrue told ↔ (made.0 ≡ xs)) text made.2))
    held
