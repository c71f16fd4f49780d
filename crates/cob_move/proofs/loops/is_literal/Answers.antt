use Rattle.std.proofs.Common.{◌∙◌, sym}
use Rattle.cob_move_loops.specs.Reading.{written_loops}
use Rattle.cob_move.proofs.LoopLemmas.{choice_literal, plain_literal}
use Rattle.cob_move.proofs.loops.is_literal.Goals as goal

pub returns-then-has_choice : goal.returns-then-has_choice
returns-then-has_choice c = λ p is same. choice_literal p (sym c.if-has_choice.true ∙ c.has_choice.ensures p is)

pub returns : goal.returns
returns c = λ p is same. plain_literal c.end_by_numbers.result p (written_loops c.args.heads.now) same (sym c.if-has_choice.false ∙ c.has_choice.ensures p is) c.end_by_numbers.ensures
