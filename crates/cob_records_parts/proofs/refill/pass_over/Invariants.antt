use Rattle.std.proofs.Common.{◌≡◌, ◌-◌, [], length}
use Rattle.cob_records_parts.specs.StillGiven.{GivesPart}
use Rattle.cob_records_parts.specs.Walks.{IsSameChoice, PassesOver}
use Rattle.cob_records_parts.proofs.refill.pass_over.Given as goal

abbrev pub invariant-loop-walk : goal.invariant-loop-walk
invariant-loop-walk g l = record {
  room : length l.body ≡ length l.initial.body;
  same : IsSameChoice l.initial.walk l.walk;
  gives : GivesPart [] l.initial.walk l.walk (g.R.Source.coming l.initial.source) (g.R.Source.coming l.source);
  passes : PassesOver l.initial.walk l.walk (g.R.Source.coming l.initial.source) (g.R.Source.coming l.source);
  cause : g.R.Source.failures l.source ≡ g.R.Source.failures l.initial.source;
}

abbrev pub decreases-loop-walk : goal.decreases-loop-walk
decreases-loop-walk g l = l.initial.walk.skip - l.walk.number
