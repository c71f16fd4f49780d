use Rattle.std.proofs.Common.{sym, ◌∙◌, arith}
use denote.Enum.Bare.{differs_true, differs_false}
use Rattle.std.proofs.lemmas.List.{take_rest}
use Rattle.cob_picture.specs.contracts.symbol.Symbol.{the_type}
use Rattle.cob_picture.proofs.Fronts.{fronts_step, fronts_stop}
use Rattle.cob_picture.proofs.numeric.front.Goals as goal

pub returns-then-ne-clause-other : goal.returns-then-ne-clause-other
returns-then-ne-clause-other c =
    rw take_rest (fronts_stop _ _ _ _ _ c.loop-i-test.true (differs_true the_type _ _ (sym c.ne.ensures ∙ c.if-ne.true)) c.loop-i.invariant)

pub loop-i-preserved : goal.loop-i-preserved
loop-i-preserved c =
    rw c.from-count.ensures (fronts_step _ _ _ _ _ c.loop-i-test.true (omega arith) (differs_false the_type tt _ _ (sym c.ne.ensures ∙ c.if-ne.false)) c.loop-i.invariant)
