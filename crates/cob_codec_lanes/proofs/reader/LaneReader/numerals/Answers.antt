use Rattle.std.proofs.Common.{◌≡◌, ℕ, refl, ap, get_or, ◌∙◌, arith}
use Rattle.std.proofs.lemmas.List.{get_or-replicate}
use Rattle.cob_codec_lanes.proofs.NumeralReading.{numeral_reader}
use Rattle.cob_codec_lanes.proofs.reader.LaneReader.numerals.Goals as goal

pub returns : goal.returns
returns c =
    let n : ℕ = c.from-count.result in
    let e : n ≡ c.args.count = c.from-count.ensures in
    numeral_reader n c.args.count c.args.wanted.digits c.args.wanted.shift _ e (record {
      some = omega (arith, e, c.requires.some);
      most = omega (arith, e, c.requires.most);
      room = c.args.wanted.most;
      least_high = λ i lt. ap (λ l. get_or l i 0) c.above-bounds.ensures.least_high ∙ c.lanes_between-least_high.ensures i lt;
      most_high = λ i lt. ap (λ l. get_or l i 0) c.above-bounds.ensures.most_high ∙ get_or-replicate 16 i 15 0 lt;
      most_low = λ i lt. ap (λ l. get_or l i 0) c.above-bounds.ensures.most_low ∙ c.lanes_between.ensures i lt;
      high = c.power_picks.ensures;
      low = c.power_picks-2.ensures;
      sign_is = refl;
      signed_is = refl;
      place_is = refl;
    })
