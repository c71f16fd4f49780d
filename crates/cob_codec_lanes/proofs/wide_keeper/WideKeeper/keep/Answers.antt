use Rattle.cob_codec_lanes.proofs.WideNumbers.{kept_wide}
use Rattle.cob_codec_lanes.proofs.wide_keeper.WideKeeper.keep.Goals as goal

pub returns : goal.returns
returns c = λ number wanted shift is held.
    kept_wide number wanted shift c.args.self.now c.args.front c.args.back c.picked.result c.picked-2.result c.sums.result is held c.picked.ensures.lanes c.picked-2.ensures.lanes c.sums.ensures.long c.sums.ensures.lanes
