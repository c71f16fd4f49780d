use Rattle.std.proofs.Common.{arith}
use Rattle.cob_move_apply.proofs.PlanLemmas.{by_located}
use Rattle.cob_move_apply.proofs.planning.push_located.Goals as goal

pub returns-clause-gains : goal.returns-clause-gains
returns-clause-gains c = λ x r given ms is.
    let (ready, same) = is in
    by_located x r given c.args.plan.now.bases.items c.args.plan.now.prepared c.args.plan.now.pictured c.args.plan.now.constants.items c.args.plan.now.located_constants.items c.args.plan.now.within.items c.args.plan.now.located.items c.push.new.self.items c.args.one
    c.args.plan.now.steps.items c.push-2.new.self.items c.len-number.result (ms x)
    c.in_ok-push.ensures.items (omega (arith, c.len-number.ensures, c.args.plan.now.located.ok.0)) ready (same x) c.in_ok-push-2.ensures.items
