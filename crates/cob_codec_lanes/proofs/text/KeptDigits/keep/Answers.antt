use Rattle.cob_codec_lanes.proofs.TextLemmas.{kept_wanted}
use Rattle.cob_codec_lanes.proofs.text.KeptDigits.keep.Goals as goal

pub returns : goal.returns
returns c = λ count wanted shift is tens.
    kept_wanted count wanted shift c.args.digits c.args.self.now.picks.lanes c.picked.result c.fits-digits.0 is.few is.room tens is.picked c.picked.ensures.long c.picked.ensures.lanes
