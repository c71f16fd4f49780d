use Rattle.cob_move_data.specs.Singles.{plain_element}
use Rattle.cob_back_moves.proofs.OnceLemmas.{Once}
use Rattle.cob_back_moves.proofs.once.receives_once.Given as goal

abbrev pub invariant-loop-single : goal.invariant-loop-single
invariant-loop-single l = Once l.receives (plain_element l.element) l.single-iterator l.statements
