use Rattle.std.proofs.Common.{◌∙◌, arith, sym}
use Rattle.cob_move.proofs.looking.plain_depth.Goals as goal

pub returns-then-has_choice : goal.returns-then-has_choice
returns-then-has_choice c = λ some p is. let never : ⊥ = omega (arith, some) in absurd never

pub returns : goal.returns
returns c = λ some p is. (sym (c.has_choice.ensures p is) ∙ c.if-has_choice.false, c.depth.ensures.deep p is)
