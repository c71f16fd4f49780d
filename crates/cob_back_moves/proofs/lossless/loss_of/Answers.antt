use Rattle.std.proofs.Common.{rules, subst}
use Rattle.std.proofs.lemmas.Bool.Decides.{not_from_Decides}
use Rattle.cob_back_moves.specs.Singles.{ReceiveOnce}
use Rattle.cob_back_moves.specs.Brought.{singles_in}
use Rattle.cob_back_moves.specs.declared.some.MovesBetween.{MovesBetween}
use Rattle.cob_back_moves.proofs.lossless.loss_of.Goals as goal

pub returns-then-not-receive_once_in-clause-loss : goal.returns-then-not-receive_once_in-clause-loss
returns-then-not-receive_once_in-clause-loss c = λ there back is once.
    not_from_Decides c.receive_once_in.result c.receive_once_in.ensures (search rules) (subst (λ (m : MovesBetween). ReceiveOnce (singles_in m)) is once)

pub returns-clause-none : goal.returns-clause-none
returns-clause-none c = record {
  elementary = c.are_elementary.ensures.0 (search rules);
  pictured = c.are_read_pictured.ensures.0 (search rules);
  once = c.receive_once_in.ensures.0 (search rules);
}
