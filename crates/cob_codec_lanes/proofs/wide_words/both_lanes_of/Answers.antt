use Rattle.cob_codec_lanes.proofs.WideWordLemmas.{held_word}
use Rattle.cob_codec_lanes.proofs.wide_words.both_lanes_of.Goals as goal

pub returns : goal.returns
returns c =
    held_word c.args.number c.lanes_of-front.result c.lanes_of-back.result c.lanes_of-front.ensures.long c.lanes_of-back.ensures.long c.lanes_of-front.ensures.valid c.lanes_of-back.ensures.valid
    c.lanes_of-front.ensures.value c.lanes_of-back.ensures.value
