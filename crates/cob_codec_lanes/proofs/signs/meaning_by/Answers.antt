use Rattle.std.proofs.Common.{arith}
use Rattle.cob_codec_lanes.proofs.SignLemmas.{said_by}
use Rattle.cob_codec_lanes.proofs.signs.meaning_by.Goals as goal

pub returns : goal.returns
returns c = said_by c.args.table c.from.result c.args.byte c.from.ensures (omega arith)
