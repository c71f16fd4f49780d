use Rattle.cob_move_deeds.specs.Tests.{Judged, Until, with_number}
use Rattle.cob_move_deeds.proofs.TestLemmas.{determined, ends_past, says_of_input}
use Rattle.cob_move_deeds.proofs.TurnLemmas.{known_is_moves}
use Rattle.cob_move_deeds.proofs.laws.bound_of_input_is_kept.Goals as goal

pub returns : goal.returns
returns c = λ r t body by n k i v input before end in_ gives far near beyond.
    known_is_moves (Judged r) r (λ j. Until (with_number t j)) body by t.most n k i v input before end (determined c.tests_are_one.ensures r) (ends_past r t) (says_of_input r t input before v in_ gives) far near beyond
