use Rattle.std.proofs.Common.{length, subst, inl, inr}
use Rattle.cob_copybook_tree.specs.Lengths.{item_size}
use Rattle.cob_codec_lanes.specs.Windows.{last_bytes}
use Rattle.cob_move_steps.specs.Long.{IsLongCharactersFor, IsLongReceiverFor, IsLongWriterFor}
use Rattle.cob_move_steps.specs.LongNumerals.{AreLongNumeralsFor}
use Rattle.cob_move_steps.specs.LongTexts.{IsLongTextWriterFor}
use Rattle.cob_move_steps.proofs.LongLemmas.{long_number, moved_long, moved_to_text, not_moved_long}
use Rattle.cob_move_steps.proofs.LongNumeralLemmas.{long_numerals_moved, no_long_numerals_moved}
use Rattle.cob_move_steps.proofs.long_step.LongStep.put.Goals as goal

pub returns-then-not-read-clause-gets : goal.returns-then-not-read-clause-gets
returns-then-not-read-clause-gets g c = λ bytes reads s r is within size reading suits.
    let read = c.args.read in
    let item = last_bytes (item_size s) bytes in
    let step = c.args.self.now in
    elim is [
      | inl own ↦ not_moved_long s r step reading item read.front read.back c.args.to.now read.is_number read.minus (length c.args.to.now) own c.if-not-read.true (reads s reading own.reader suits within)
      | inr own ↦ no_long_numerals_moved s r step reading item read.front read.back c.args.to.now read.is_number read.minus (length c.args.to.now) own c.if-not-read.true (reads s reading own.reader suits within)
    ]

pub returns-in-Number-clause-gets : goal.returns-in-Number-clause-gets
returns-in-Number-clause-gets g c = λ bytes reads s r is within size reading suits.
    let read = c.args.read in
    elim is [
      | inl own ↦
          let w : IsLongWriterFor r c.in-Number.writer = subst (λ w. IsLongReceiverFor r w) c.in-Number.is own.writer in
          let left = c.keeps_minus_of_both-minus.ensures in
          moved_long s r c.args.self.now reading (last_bytes (item_size s) bytes) read.front read.back c.keep-front.result c.keep-back.result c.write.new.to read.is_number read.minus c.keeps_minus_of_both-minus.result left.0
          (length c.args.to.now) own (long_number r c.in-Number.writer w) size c.if-not-read.false (reads s reading own.reader suits within) c.keep-front.ensures c.keep-back.ensures left.1 left.2
          (λ tens more some. c.write.ensures r w size tens more some)
      | inr other ↦ absurd (subst (λ w. IsLongCharactersFor s r w) c.in-Number.is other.writer)
    ]

pub returns-in-Text-clause-gets : goal.returns-in-Text-clause-gets
returns-in-Text-clause-gets g c = λ bytes reads s r is within size reading suits.
    let read = c.args.read in
    elim is [
      | inl own ↦
          let w : IsLongTextWriterFor r c.in-Text.writer = subst (λ w. IsLongReceiverFor r w) c.in-Text.is own.writer in
          moved_to_text s r c.args.self.now reading (last_bytes (item_size s) bytes) read.front read.back c.keep-front.result c.keep-back.result c.write-in-Text.new.to read.is_number read.minus
          (length c.args.to.now) own w.edited.plainly c.if-not-read.false (reads s reading own.reader suits within) c.keep-front.ensures c.keep-back.ensures
          (λ tens more. c.write-in-Text.ensures r w size tens more)
      | inr other ↦ absurd (subst (λ w. IsLongCharactersFor s r w) c.in-Text.is other.writer)
    ]

pub returns-in-Characters-clause-gets : goal.returns-in-Characters-clause-gets
returns-in-Characters-clause-gets g c = λ bytes reads s r is within size reading suits.
    let read = c.args.read in
    elim is [
      | inl other ↦ absurd (subst (λ w. IsLongReceiverFor r w) c.in-Characters.is other.writer)
      | inr own ↦
          let w : AreLongNumeralsFor s r c.in-Characters.writer = subst (λ w. IsLongCharactersFor s r w) c.in-Characters.is own.writer in
          long_numerals_moved s r c.args.self.now c.in-Characters.writer reading (last_bytes (item_size s) bytes) read.front read.back c.keep-front.result c.keep-back.result c.write-in-Characters.new.to read.is_number read.minus
          (length c.args.to.now) own w suits c.if-not-read.false (reads s reading own.reader suits within) c.keep-front.ensures c.keep-back.ensures
          (λ tens more. c.write-in-Characters.ensures s r w tens more)
    ]
