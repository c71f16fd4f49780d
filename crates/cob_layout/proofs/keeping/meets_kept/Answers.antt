use Rattle.std.proofs.Common.{sym}
use Rattle.cob_layout.proofs.RangeLemmas.{past_all}
use Rattle.cob_layout.proofs.keeping.meets_kept.Goals as goal

pub returns-then-not-meets_range : goal.returns-then-not-meets_range
returns-then-not-meets_range c = sym (past_all c.args.range c.args.place c.args.kept.now c.requires.within (sym c.if-not-meets_range.ensures))
