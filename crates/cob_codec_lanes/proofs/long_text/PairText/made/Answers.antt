use Rattle.cob_codec_lanes.proofs.LongTextLemmas.{shown_of_both}
use Rattle.cob_codec_lanes.proofs.long_text.PairText.made.Goals as goal

pub returns : goal.returns
returns c =
    shown_of_both c.args.self.now c.args.minus c.args.front c.args.back c.picked.result c.picked-2.result c.sums-digits.result c.chosen.result c.sums.result c.sums.ensures.long
    c.picked.ensures.lanes c.picked-2.ensures.lanes c.sums-digits.ensures.lanes c.chosen.ensures c.sums.ensures.lanes
