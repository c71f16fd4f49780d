use Rattle.std.proofs.Common.{◌++◌, replicate, ap, ◌∙◌, arith}
use Rattle.cob_codec_lanes.proofs.LongPlaceLemmas.{few_padded}
use Rattle.cob_codec_lanes.proofs.long_text_lanes.LongTextLanes.of.Goals as goal

pub returns-then-bytes-le32 : goal.returns-then-bytes-le32
returns-then-bytes-le32 c = ap (λ xs. xs ++ replicate 16 0) c.of.ensures ∙ few_padded c.args.bytes.now (omega (arith, c.if-bytes-le32.true))
