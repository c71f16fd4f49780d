use Rattle.std.proofs.Common.{arith}
use Rattle.cob_move_apply.specs.declared.step.LocatedConstant.{LocatedConstant}
use Rattle.cob_move_apply.proofs.PlanLemmas.{by_located_constant}
use Rattle.cob_move_apply.proofs.planning.push_located_constant.Goals as goal

pub returns-clause-gains : goal.returns-clause-gains
returns-clause-gains c = λ x r given ms is.
    let (constant, placed, writes, same) = is in
    let one : LocatedConstant = record { receiver = c.args.one.receiver; to = c.args.one.to; number = c.len-written.result } in
    by_located_constant x r given c.args.plan.now.bases.items c.args.plan.now.prepared c.args.plan.now.pictured c.args.plan.now.located.items c.args.plan.now.within.items c.args.plan.now.constants.items c.push.new.self.items c.args.one.step
    c.args.plan.now.located_constants.items c.push-2.new.self.items one constant c.args.plan.now.steps.items c.push-3.new.self.items c.len-number.result (ms x)
    c.in_ok-push.ensures.items (omega (arith, c.len-written.ensures, c.args.plan.now.constants.ok.0)) c.in_ok-push-2.ensures.items (omega (arith, c.len-number.ensures, c.args.plan.now.located_constants.ok.0))
    placed writes (same x) c.in_ok-push-3.ensures.items
