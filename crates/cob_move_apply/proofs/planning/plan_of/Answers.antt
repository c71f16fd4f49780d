use Rattle.std.proofs.Common.{◌≡◌, ◌∙◌, [], refl}
use Rattle.cob_move_data.specs.Moves.{Records}
use Rattle.cob_move_apply.proofs.PlanLemmas.{more_all, more_statement, none_yet, some_statement, stand_all, stand_more, stand_none}
use Rattle.cob_move_apply.proofs.StatementLemmas.{moves_at}
use Rattle.cob_move_apply.specs.Steps.{support_of}
use Rattle.cob_move_apply.proofs.planning.plan_of.Goals as goal

pub loop-number-init : goal.loop-number-init
loop-number-init c =
    let r : Records = record { input = c.args.input.now; output = c.args.output.now } in
    let none : c.reserve.new.self.items ≡ [] = c.reserve.ensures.items ∙ c.empty_plan-plan.ensures in record {
      stand = λ x. stand_none x r c.args.given.now c.reserve.new.self.items (support_of c.empty_plan-plan.result) none;
      more = λ x. none_yet r c.reserve.new.self.items none;
    }

pub push_statement-requires-clause-moves : goal.push_statement-requires-clause-moves
push_statement-requires-clause-moves c = λ s there.
    moves_at (record { input = c.args.input.now; output = c.args.output.now }) c.args.given.now c.loop-number.number s there.0 there.1 c.requires.given

pub loop-number-preserved : goal.loop-number-preserved
loop-number-preserved c =
    let r : Records = record { input = c.args.input.now; output = c.args.output.now } in
    let (s, is) = some_statement c.args.given.now c.loop-number.number c.loop-number-test.true in record {
      stand = λ x. stand_more x r c.args.given.now c.loop-number.number s c.loop-number.plan c.push_statement.new.plan c.loop-number-test.true is (c.loop-number.invariant.stand x)
          (c.in_ok-push_statement.ensures.gains x s (c.loop-number-test.true, is));
      more = λ x. more_statement x r c.args.given.now c.loop-number.number s [] c.loop-number.plan.steps.items c.push_statement.new.plan.steps.items c.loop-number-test.true is (c.loop-number.invariant.more x)
          (c.in_ok-push_statement.ensures.more x s (c.loop-number-test.true, is));
    }

pub returns-clause-stand : goal.returns-clause-stand
returns-clause-stand c = λ x.
    stand_all x (record { input = c.args.input.now; output = c.args.output.now }) c.args.given.now c.loop-number.number c.loop-number.plan.steps.items (support_of c.loop-number.plan) c.loop-number-test.false
    (c.loop-number.invariant.stand x)

pub returns-clause-count : goal.returns-clause-count
returns-clause-count c = λ x.
    more_all x (record { input = c.args.input.now; output = c.args.output.now }) c.args.given.now c.loop-number.number [] c.loop-number.plan.steps.items c.loop-number-test.false refl (c.loop-number.invariant.more x)
