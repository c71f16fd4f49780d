use Rattle.std.proofs.Common.{ℕ, ◌-◌, ◌+◌, length, refl}
use Rattle.cob_codec_lanes.proofs.DigitReading.{item_lanes, read_item}
use Rattle.cob_codec_lanes.proofs.WindowLemmas.{small_of}
use Rattle.cob_codec_lanes.proofs.digit_reader.DigitReader.read.Goals as goal

pub returns : goal.returns
returns c =
    let r = c.args.self.now in
    let bytes = c.args.bytes.now in
    let d = r.digits in
    let end : ℕ = length bytes - d.size + d.first + d.count in
    read_item r bytes c.window_of-front.result c.window_of-back.result c.lows.result c.picked.result c.lows-2.result c.is_sign.result c.are_digits.result c.is_minus.result c.meaning_by-meaning.result d.within c.requires
    r.in_front r.behind r.picked
    (item_lanes bytes c.window_of-front.result c.window_of-back.result d.size d.first d.count end d.many d.room d.within c.requires refl (λ k. small_of _ (c.type_inv.bytes k)) c.window_of-front.ensures.few c.window_of-front.ensures.many
    c.window_of-back.ensures.few c.window_of-back.ensures.many)
    c.are_digits.ensures c.is_sign.ensures c.is_minus.ensures (c.meaning_by-meaning.ensures r.sign r.signed r.tabled)
    c.lows.ensures.lanes c.picked.ensures.long c.picked.ensures.lanes c.lows-2.ensures.long c.lows-2.ensures.lanes
