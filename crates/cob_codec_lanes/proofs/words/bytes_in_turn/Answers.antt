use Rattle.cob_codec_lanes.proofs.WordLemmas.{bytes_even, bytes_odd}
use Rattle.cob_codec_lanes.proofs.words.bytes_in_turn.Goals as goal

pub returns-clause-even : goal.returns-clause-even
returns-clause-even c i lt = bytes_even c.args.a c.args.b i c.fits-a.0 c.fits-b.0 c.requires.small_a c.requires.small_b lt

pub returns-clause-odd : goal.returns-clause-odd
returns-clause-odd c i lt = bytes_odd c.args.a c.args.b i c.fits-a.0 c.fits-b.0 c.requires.small_a c.requires.small_b lt
