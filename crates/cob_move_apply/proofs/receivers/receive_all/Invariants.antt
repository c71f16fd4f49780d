use Rattle.std.proofs.Common.{◌≡◌, length, drop}
use Rattle.cob_move_apply.specs.Placed.{ArePlacedReceivers, content_of}
use Rattle.cob_move_apply.specs.Seen.{receivers_in}
use Rattle.cob_move_apply.specs.Surveyed.{IsSurvey}
use Rattle.cob_move_apply.proofs.ReceiverLemmas.{GetsFrom}
use Rattle.cob_move_apply.proofs.SpendingLemmas.{SpentTo}
use Rattle.cob_move_apply.proofs.receivers.receive_all.Given as goal

abbrev pub invariant-loop-index : goal.invariant-loop-index
invariant-loop-index l = record {
  get : GetsFrom l.layout (content_of l.given) (receivers_in l.layout l.receivers) l.index l.fn.output l.output;
  left : ArePlacedReceivers l.layout (drop l.index (receivers_in l.layout l.receivers)) (drop l.index l.receivers.bases.now);
  output : length l.output ≡ length l.fn.output;
  survey : IsSurvey l.layout l.output l.survey;
  spends : SpentTo l.layout (content_of l.given) (receivers_in l.layout l.receivers) l.index l.fn.output l.output l.fn.survey l.survey;
}
