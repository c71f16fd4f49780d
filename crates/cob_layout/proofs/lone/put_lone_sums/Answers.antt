use Rattle.std.proofs.Common.{◌*◌}
use Rattle.cob_layout.proofs.LoneSumLemmas.{two_set}
use Rattle.cob_layout.proofs.lone.put_lone_sums.Goals as goal

pub returns : goal.returns
returns c = two_set c.args.sums.now (c.args.number * c.args.lone.now.bytes) c.requires.room
