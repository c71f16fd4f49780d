use Rattle.cob_codec.proofs.HalfLemmas.{half_is, half_low}
use Rattle.cob_codec.proofs.halves.half_at.Goals as goal

pub returns-then-at-eq0 : goal.returns-then-at-eq0
returns-then-at-eq0 c = half_is c.args.bytes.now c.args.at c.requires c.if-at-eq0.true

pub returns-else-at-eq0 : goal.returns-else-at-eq0
returns-else-at-eq0 c = half_low c.args.bytes.now c.args.at c.requires c.if-at-eq0.false
