use Rattle.std.proofs.Common.{arith}
use Rattle.cob_move_apply.proofs.PlanLemmas.{by_constant}
use Rattle.cob_move_apply.proofs.planning.push_constant.Goals as goal

pub returns-clause-gains : goal.returns-clause-gains
returns-clause-gains c = λ x r given ms is.
    let (constant, to, writes, fixed) = is in
    by_constant x r given c.args.plan.now.bases.items c.args.plan.now.prepared c.args.plan.now.pictured c.args.plan.now.located.items c.args.plan.now.located_constants.items c.args.plan.now.within.items c.args.plan.now.constants.items c.push.new.self.items c.args.one.step
    c.args.plan.now.steps.items c.push-2.new.self.items (record { to = c.args.one.to; number = c.len-number.result }) constant to (ms x)
    c.in_ok-push.ensures.items (omega (arith, c.len-number.ensures, c.args.plan.now.constants.ok.0)) writes (fixed x) c.in_ok-push-2.ensures.items
