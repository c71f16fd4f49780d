use Rattle.cob_codec_lanes.proofs.WordLemmas.{turned_odd}
use Rattle.cob_codec_lanes.proofs.words.in_turn.Goals as goal

pub returns-clause-odd : goal.returns-clause-odd
returns-clause-odd c i lt = turned_odd c.args.a c.args.b i c.fits-a.0 lt
