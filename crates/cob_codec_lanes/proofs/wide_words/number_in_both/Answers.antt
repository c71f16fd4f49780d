use Rattle.std.proofs.Common.{◌*◌, ◌%◌, ◌^◌, refl}
use Rattle.cob_codec_lanes.proofs.WideWordLemmas.{wrapped_both}
use Rattle.cob_codec_lanes.proofs.wide_words.number_in_both.Goals as goal

pub returns : goal.returns
returns c = λ tens more small.
    wrapped_both c.args.front c.args.back c.number_in-high.result c.number_in.result (c.number_in-high.result * 10000000000000000 % 2 ^ 64) _ c.fits-back.0 (c.number_in-high.ensures tens) (c.number_in.ensures more) small refl refl
