use Rattle.std.proofs.Common.{◌≤◌, ◌-ℤ◌, ◌⊎◌, inl, inr, length, subst, ap}
use Rattle.cob_picture.specs.Counts.{scale, signed}
use Rattle.cob_codec.specs.Binary.{binary_length}
use Rattle.cob_copybook_tree.specs.Lengths.{item_size}
use Rattle.cob_copybook_tree.specs.Storage.{is_read_whole}
use Rattle.cob_codec_lanes.specs.Readers.{AreNumeralsOf}
use Rattle.cob_codec_lanes.specs.Windows.{last_bytes}
use Rattle.cob_move_steps.specs.Ends.{IsLaneReaderFor, IsNumeralReaderFor, IsOwnReader, IsWordReaderFor, item_digits}
use Rattle.cob_move_steps.proofs.AnyNumberLemmas.{size_is, word_read}
use Rattle.cob_move_steps.proofs.GivenLemmas.{number_given, numerals_given}
use Rattle.cob_move_steps.proofs.StepLemmas.{item_read, lanes_read, last_size}
use Rattle.cob_move_steps.proofs.number_ends.NumberReader.read.Goals as goal

pub returns-in-Lanes : goal.returns-in-Lanes
returns-in-Lanes c = λ from to reading is suits within.
    let own : IsLaneReaderFor from to c.in-Lanes.reader ⊎ IsNumeralReaderFor from to c.in-Lanes.reader = subst (λ r. IsOwnReader from to r) c.in-Lanes.is is.own in
    let bytes = c.args.bytes.now in
    let shift = scale to.picture.positions -ℤ scale from.picture.positions in
    let r = c.read.result in
    elim own [
      | inl number ↦
          number_given reading from (last_bytes (item_size from) bytes) r.digits (item_digits to) shift r.is_number r.minus number.number
          (item_read from reading (item_digits to) shift c.in-Lanes.reader bytes r.digits r.is_number r.minus number.reads suits.0 within c.read.ensures)
      | inr numeral ↦
          numerals_given reading from (last_bytes (item_size from) bytes) r.digits (item_digits to) shift r.is_number r.minus numeral.characters (last_size (item_size from) bytes within)
          (lanes_read (AreNumeralsOf (item_size from)) (item_size from) (item_digits to) shift c.in-Lanes.reader bytes r.digits r.is_number r.minus numeral.reads within c.read.ensures)
    ]

pub returns-in-Binary : goal.returns-in-Binary
returns-in-Binary c = λ from to reading is suits within.
    let own : IsWordReaderFor from to c.in-Binary.reader = subst (λ r. IsOwnReader from to r) c.in-Binary.is is.own in
    let long : binary_length (item_digits from) ≤ length c.args.bytes.now = subst (λ n. n ≤ length c.args.bytes.now) (size_is from own.binary) within in
    let shift = scale to.picture.positions -ℤ scale from.picture.positions in
    let r = c.read_word.result in
    number_given reading from (last_bytes (item_size from) c.args.bytes.now) r.digits (item_digits to) shift r.is_number r.minus own.number
    (word_read from to reading c.args.bytes.now r.digits r.is_number r.minus own.binary (suits.1 (ap is_read_whole own.binary))
    (c.read_word.ensures (item_digits from) (signed from.picture.positions) (item_digits to) shift own.reads long))
