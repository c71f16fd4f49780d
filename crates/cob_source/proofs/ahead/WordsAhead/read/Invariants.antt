use Rattle.std.proofs.Common.{length, ◌≤◌}
use Rattle.cob_source.specs.Ahead.{HaveLineNumbers, IsNoted, ReadsOn}
use Rattle.cob_source.proofs.ahead.WordsAhead.read.Given as goal

abbrev pub invariant-loop-self : goal.invariant-loop-self
invariant-loop-self l = record {
  numbered : HaveLineNumbers l.self;
  noted : IsNoted l.self;
  read : ReadsOn l.fn.out.items l.out.items l.fn.self l.self;
  no_longer : length l.self.rest.now ≤ length l.fn.self.rest.now;
}

abbrev pub decreases-loop-self : goal.decreases-loop-self
decreases-loop-self l = length l.self.rest.now
