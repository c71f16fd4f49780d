use Rattle.cob_codec_lanes.proofs.LaneLemmas.{either_zero}
use Rattle.cob_codec_lanes.proofs.lanes.either.Goals as goal

pub returns : goal.returns
returns c = either_zero c.args.a c.args.b c.fits-a.0 c.fits-b.0 c.fits-a.1 c.fits-b.1
