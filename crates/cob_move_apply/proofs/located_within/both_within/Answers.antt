use Rattle.std.proofs.Common.{Ok, arith, false, subst, true}
use Rattle.cob_move_data.specs.declared.operands.Operand.{Operand}
use Rattle.cob_move_data.specs.declared.operands.Side.TheVariants.{Out}
use Rattle.cob_move_receive.specs.Sent.{Occupies}
use Rattle.cob_move_apply.specs.Located.{Located}
use Rattle.cob_move_apply.proofs.SpentLemmas.{spent_behind}
use Rattle.cob_move_apply.proofs.located_within.both_within.Goals as goal

pub returns-clause-stand : goal.returns-clause-stand
returns-clause-stand c =
    let from = c.in-Some.from in
    let to = c.in-Some-locate_if_there.to in record {
      sends = subst (λ (o : Operand). Located Out c.args.layouts.now.output.now false o c.args.output.now (Ok from)) c.placed_operand-sender.ensures.operand c.in-Some.ensures.located;
      reads = omega (arith, c.in-Some.ensures.fits, c.requires.output);
      sent = subst (λ (o : Operand). Occupies o.kind from.length) c.placed_operand-sender.ensures.operand c.in-Some.ensures.filled;
      receives = subst (λ (o : Operand). Located Out c.args.layouts.now.output.now true o c.args.output.now (Ok to)) c.placed_operand-receiver.ensures.operand c.in-Some-locate_if_there.ensures.located;
      within = c.in-Some-locate_if_there.ensures.fits;
      received = subst (λ (o : Operand). Occupies o.kind to.length) c.placed_operand-receiver.ensures.operand c.in-Some-locate_if_there.ensures.filled;
    }

pub returns-clause-spends : goal.returns-clause-spends
returns-clause-spends c = spent_behind c.args.layouts.now.output.now 0 _ _ _ c.in-Some.ensures.spends c.in-Some-locate_if_there.ensures.spends
