use Rattle.cob_move_data.specs.Singles.{singles_of}
use Rattle.cob_move_apply.proofs.SpareLemmas.{NoneOfThese}
use Rattle.cob_move_apply.proofs.spared.all_begin_from.Given as goal

abbrev pub invariant-loop-single : goal.invariant-loop-single
invariant-loop-single l = NoneOfThese l.output l.byte l.single-iterator → NoneOfThese l.output l.byte (singles_of l.statements)
