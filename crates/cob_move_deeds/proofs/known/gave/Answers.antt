use Rattle.std.proofs.Common.{arith, subst}
use Rattle.std.proofs.Common.{Option}
use Rattle.std.specs.Prelude.{IfSome}
use Rattle.cob_move_deeds.specs.Known.{IsKnown}
use Rattle.cob_move_deeds.specs.declared.known.KnownBound.{KnownBound}
use Rattle.cob_move_deeds.proofs.SteadyLemmas.{known_gave}
use Rattle.cob_move_deeds.proofs.known.gave.Goals as goal

pub returns-then-known-bound : goal.returns-then-known-bound
returns-then-known-bound c = λ r on input before known.
    known_gave r on input before c.in-Some.known c.args.bound (omega (arith, c.if-known-bound.true)) (subst (λ (o : Option KnownBound). IfSome o (IsKnown r on input before)) c.in-Some.is known)
