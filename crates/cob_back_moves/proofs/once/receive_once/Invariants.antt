use Rattle.std.specs.List.{AllByRecursion}
use Rattle.cob_codec.specs.declared.reading.Reading.{Reading}
use Rattle.cob_move_data.specs.Moves.{Records}
use Rattle.cob_move_data.specs.Singles.{PlainSingle}
use Rattle.cob_back_moves.specs.Singles.{ReceiveOnce}
use Rattle.cob_back_moves.specs.Received.{ReceivesOnce, singles_by}
use Rattle.cob_back_moves.proofs.LeftLemmas.{Both}
use Rattle.cob_back_moves.proofs.once.receive_once.Given as goal

abbrev pub invariant-loop-single : goal.invariant-loop-single
invariant-loop-single l = (x : Reading) (r : Records)
    → Both (AllByRecursion (λ (p : PlainSingle). ReceivesOnce p.receiver (singles_by x r l.statements)) l.single-iterator) (ReceiveOnce (singles_by x r l.statements))
