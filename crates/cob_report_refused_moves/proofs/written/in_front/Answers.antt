use Rattle.std.proofs.Common.{arith}
use Rattle.std.proofs.lemmas.Grind.{common_steps}
use Rattle.cob_report_refused_moves.proofs.Cutting.{front_is}
use Rattle.cob_report_refused_moves.proofs.written.in_front.Goals as goal

pub returns : goal.returns
returns c = rw c.split_at.ensures.front (front_is c.args.words.now c.args.rest.now c.requires.0 c.saturating_sub.result c.requires.1 (grind (arith, common_steps)))
