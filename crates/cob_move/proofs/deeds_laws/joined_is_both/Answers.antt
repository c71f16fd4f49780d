use Rattle.cob_move_deeds.specs.Tests.{Judged}
use Rattle.cob_move.proofs.JoinedLemmas.{joined_apart, joined_together}
use Rattle.cob_move.proofs.deeds_laws.joined_is_both.Goals as goal

pub returns : goal.returns
returns c = λ r d next input before end. (λ x. joined_apart (Judged r) r d next input before end x, λ x. joined_together (Judged r) r d next input before end x)
