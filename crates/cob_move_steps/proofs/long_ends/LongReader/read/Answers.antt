use Rattle.std.proofs.Common.{◌⊎◌, ◌≤◌, length, subst, ap, sym, inl, inr}
use Rattle.cob_picture.specs.Counts.{signed}
use Rattle.cob_codec.specs.Binary.{binary_length}
use Rattle.cob_copybook_tree.specs.Items.{IsSentBy}
use Rattle.cob_copybook_tree.specs.Lengths.{item_size}
use Rattle.cob_copybook_tree.specs.Storage.{is_read_whole}
use Rattle.cob_codec_lanes.specs.Readers.{AreNumeralsOf}
use Rattle.cob_codec_lanes.specs.Windows.{last_bytes}
use Rattle.cob_codec_lanes.proofs.DigitReading.{digits_read}
use Rattle.cob_codec_lanes.proofs.PairReading.{pair_read}
use Rattle.cob_move_steps.specs.Ends.{item_digits}
use Rattle.cob_move_steps.specs.Long.{AreDigitsReadFor, AreNumeralsReadFor, IsLongReaderFor, IsLongWordReaderFor, IsNumeralPairFor, IsPairReaderFor}
use Rattle.cob_move_steps.proofs.AnyNumberLemmas.{size_is}
use Rattle.cob_move_steps.proofs.LongLemmas.{characters_wide, number_wide, word_wide}
use Rattle.cob_move_steps.proofs.StepLemmas.{last_size}
use Rattle.cob_move_steps.proofs.long_ends.LongReader.read.Goals as goal

pub returns-in-Lanes : goal.returns-in-Lanes
returns-in-Lanes c = λ from reading is suits within.
    let r = c.in-Lanes.reader in
    let own : IsPairReaderFor from r ⊎ IsNumeralPairFor from r = subst (λ x. IsLongReaderFor from x) c.in-Lanes.is is in
    let bytes = c.args.bytes.now in
    let item = last_bytes (item_size from) bytes in
    let read = c.read.result in
    elim own [
      | inl number ↦
          number_wide reading from item read.front read.back read.is_number read.minus number.number
          (pair_read (IsSentBy reading from) (item_size from) r bytes read.front read.back read.is_number read.minus (number.reads reading suits.0) within c.read.ensures)
      | inr numeral ↦
          characters_wide reading from item read.front read.back read.is_number read.minus numeral.characters (last_size (item_size from) bytes within)
          (pair_read (AreNumeralsOf (item_size from)) (item_size from) r bytes read.front read.back read.is_number read.minus numeral.reads within c.read.ensures)
    ]

pub returns-in-Digits : goal.returns-in-Digits
returns-in-Digits c = λ from reading is suits within.
    let r = c.in-Digits.reader in
    let own : AreDigitsReadFor from r ⊎ AreNumeralsReadFor from r = subst (λ x. IsLongReaderFor from x) c.in-Digits.is is in
    let bytes = c.args.bytes.now in
    let item = last_bytes (item_size from) bytes in
    let read = c.read_digits.result in
    elim own [
      | inl number ↦
          number_wide reading from item read.front read.back read.is_number read.minus number.number
          (digits_read (IsSentBy reading from) (item_size from) r bytes read.front read.back read.is_number read.minus (number.reads reading suits.0) within r.digits.within
          (c.read_digits.ensures (subst (λ n. n ≤ length bytes) (sym (number.reads reading suits.0).bytes) within)))
      | inr numeral ↦
          characters_wide reading from item read.front read.back read.is_number read.minus numeral.characters (last_size (item_size from) bytes within)
          (digits_read (AreNumeralsOf (item_size from)) (item_size from) r bytes read.front read.back read.is_number read.minus numeral.reads within r.digits.within
          (c.read_digits.ensures (subst (λ n. n ≤ length bytes) (sym numeral.reads.bytes) within)))
    ]

pub returns-in-Word : goal.returns-in-Word
returns-in-Word c = λ from reading is suits within.
    let own : IsLongWordReaderFor from c.in-Word.reader = subst (λ x. IsLongReaderFor from x) c.in-Word.is is in
    let bytes = c.args.bytes.now in
    let long : binary_length (item_digits from) ≤ length bytes = subst (λ n. n ≤ length bytes) (size_is from own.binary) within in
    let read = c.read_word.result in
    word_wide reading from bytes read.front read.back read.is_number read.minus own.number own.binary (suits.1 (ap is_read_whole own.binary))
    (c.read_word.ensures (item_digits from) (signed from.picture.positions) own.reads long)

pub returns-in-Text : goal.returns-in-Text
returns-in-Text c = λ from reading is suits within.
    c.read-in-Text.ensures from reading (subst (λ x. IsLongReaderFor from x) c.in-Text.is is) within
