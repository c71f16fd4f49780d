use Rattle.cob_move_apply.proofs.PlanLemmas.{by_prepared}
use Rattle.cob_move_apply.proofs.planning.push_within.Goals as goal

pub returns-clause-gains : goal.returns-clause-gains
returns-clause-gains c = λ x r given ms is.
    by_prepared x r given c.args.plan.now.bases.items c.args.plan.now.pictured c.args.plan.now.constants.items c.args.plan.now.located.items c.args.plan.now.located_constants.items c.args.plan.now.within.items c.args.plan.now.prepared c.args.plan.now.prepared c.args.plan.now.steps.items c.push.new.self.items c.within_step.result (ms x)
    (λ k t h. h) c.in_ok-push.ensures.items
    (c.within_step.ensures.stands x r given (record { bases = c.args.plan.now.bases.items; prepared = c.args.plan.now.prepared; pictured = c.args.plan.now.pictured; constants = c.args.plan.now.constants.items; located = c.args.plan.now.located.items; located_constants = c.args.plan.now.located_constants.items; within = c.args.plan.now.within.items }) (ms x) (is x))
