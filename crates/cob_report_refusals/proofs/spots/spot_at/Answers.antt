use Rattle.std.proofs.Common.{List, refl, sym, subst, inl, inr}
use Rattle.cob_source.specs.Tokens.{lexemes}
use Rattle.cob_source.specs.declared.token.Token.{Token}
use Rattle.cob_report_refusals.specs.Refused.{StandsIn}
use Rattle.cob_report_refusals.proofs.spots.spot_at.Goals as goal

pub returns-then-left-eq0 : goal.returns-then-left-eq0
returns-then-left-eq0 c = c.loop-first.invariant _ (subst (λ (ts : List Token). StandsIn (record { line = c.in-Some.first.now.line; column = c.in-Some.first.now.column }) (lexemes ts)) (sym c.in-Some.ensures.cases.0) (inl (refl, refl)))

pub loop-first-preserved : goal.loop-first-preserved
loop-first-preserved c = λ s h. c.loop-first.invariant s (subst (λ (ts : List Token). StandsIn s (lexemes ts)) (sym c.in-Some.ensures.cases.0) (inr h))
