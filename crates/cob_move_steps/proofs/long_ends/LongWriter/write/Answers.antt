use Rattle.std.proofs.Common.{◌≡◌, ◌<◌, ◌≤◌, ◌-◌, ◌++◌, ℕ, List, length, take, subst, ap, sym, ◌∙◌, arith}
use Rattle.cob_decimal.specs.Decimal.{number_of}
use Rattle.cob_codec_lanes.proofs.DigitWriting.{both_long, both_valid}
use Rattle.cob_move_steps.specs.Ends.{IsNumberWriterFor, item_digits}
use Rattle.cob_move_steps.specs.Long.{AreDigitsWrittenFor, IsLongWriterFor, IsPackedWriterFor}
use Rattle.cob_move_steps.specs.LongDigits.{long_digits}
use Rattle.cob_move_steps.specs.Steps.{received_form}
use Rattle.cob_move_steps.proofs.LongDigits.{long_joined, long_short}
use Rattle.cob_move_steps.proofs.PoolLemmas.{writer_fits}
use Rattle.cob_move_steps.proofs.long_ends.LongWriter.write.Goals as goal

pub returns-in-Short : goal.returns-in-Short
returns-in-Short c = λ to is size tens more some.
    let w = c.in-Short.writer in
    let own : IsNumberWriterFor to w = subst (λ x. IsLongWriterFor to x) c.in-Short.is is in
    let same : long_digits (item_digits to) c.args.front c.args.back ≡ take (item_digits to) c.args.back = long_short (item_digits to) c.args.front c.args.back own.few in
    let few : length c.args.to.now ≤ 16 = omega (arith, size, writer_fits to w own.own) in
    c.write_short.ensures few to own size more (λ t. subst (λ ds. 0 < number_of ds) same (some t)) ∙ ap (received_form to c.args.minus) (sym same)

pub returns-in-Packed : goal.returns-in-Packed
returns-in-Packed c = λ to is size tens more some.
    let own : IsPackedWriterFor to c.in-Packed.writer = subst (λ x. IsLongWriterFor to x) c.in-Packed.is is in
    let front = c.args.front in
    let back = c.args.back in
    let few : length c.args.to.now ≤ 16 = omega (arith, size, own.writes.fits) in
    let made = c.write_packed.ensures few in
    made.2 ∙ ap (λ n. take n made.0) size ∙ own.writes.writes c.args.minus front back made.0 c.fits-front.0 c.fits-back.0 tens more made.1
    ∙ ap (received_form to c.args.minus) (sym (long_joined (item_digits to) front back (omega (arith, own.writes.many)) c.fits-back.0))

pub returns-in-Digits : goal.returns-in-Digits
returns-in-Digits c = λ to is size tens more some.
    let w = c.in-Digits.writer in
    let own : AreDigitsWrittenFor to w = subst (λ x. IsLongWriterFor to x) c.in-Digits.is is in
    let d = w.digits in
    let front = c.args.front in
    let back = c.args.back in
    let ds : List ℕ = take (d.count - 16) front ++ back in
    let made = c.write_digits.ensures (size ∙ sym own.writes.bytes) tens more in
    own.writes.writes c.args.minus ds c.write_digits.new.to (both_long d.count front back d.many d.room c.fits-front.0 c.fits-back.0 ∙ own.writes.many) (both_valid d.count front back d.many d.room c.fits-front.0 c.fits-back.0 tens more) made
    ∙ ap (received_form to c.args.minus) (ap (λ n. take (n - 16) front ++ back) own.writes.many ∙ sym (long_joined (item_digits to) front back (omega (arith, own.writes.many, d.many)) c.fits-back.0))
