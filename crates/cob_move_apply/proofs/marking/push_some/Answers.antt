use Rattle.std.proofs.Common.{◌≡◌, ◌<◌, ℕ, [], arith, length, refl, subst}
use Rattle.cob_codec.specs.declared.reading.Reading.TheVariants.{Pictured}
use Rattle.cob_move_data.specs.Moves.{Records, moves_by, statement_moves_by}
use Rattle.cob_move_apply.specs.Marked.{items_between}
use Rattle.cob_move_apply.specs.Planned.{AreMore, records_between}
use Rattle.cob_move_apply.specs.Steps.{StandFor, support_of}
use Rattle.cob_move_apply.proofs.JoinLemmas.{all_told}
use Rattle.cob_move_apply.proofs.MarkLemmas.{grown_on, more_between, none_first, stand_first, stand_some}
use Rattle.cob_move_apply.proofs.PlanLemmas.{grows_same, some_statement}
use Rattle.cob_move_apply.proofs.StatementLemmas.{moves_at}
use Rattle.cob_move_apply.proofs.marking.push_some.Goals as goal

pub push_statement-requires-clause-moves : goal.push_statement-requires-clause-moves
push_statement-requires-clause-moves c = λ s there.
    moves_at (records_between c.args.both.now) c.args.given.now c.loop-number.number s there.0 there.1 c.requires.given

pub loop-number-init : goal.loop-number-init
loop-number-init c = record {
  past = omega arith;
  within = c.requires.rises;
  grows = grows_same (support_of c.args.plan.now);
  stand = λ x. stand_first x (records_between c.args.both.now) c.args.given.now c.args.from c.args.plan.now c.requires.none;
  more = λ x. none_first x (records_between c.args.both.now) c.args.given.now c.args.from c.args.plan.now.steps.items c.requires.none;
}

pub loop-number-preserved : goal.loop-number-preserved
loop-number-preserved c =
    let r : Records = records_between c.args.both.now in
    let lt : c.loop-number.number < length c.args.given.now = omega (arith, c.loop-number-test.true, c.requires.within) in
    let (s, is) = some_statement c.args.given.now c.loop-number.number lt in record {
      past = omega (arith, c.loop-number.invariant.past);
      within = omega (arith, c.loop-number-test.true);
      grows = grown_on Pictured r c.args.given.now (statement_moves_by Pictured r s) c.args.plan.now c.loop-number.plan c.push_statement.new.plan c.loop-number.invariant.grows (c.in_ok-push_statement.ensures.gains Pictured s (lt, is));
      stand = λ x. stand_some x r c.args.given.now c.args.from c.loop-number.number s c.loop-number.plan c.push_statement.new.plan c.loop-number.invariant.past lt is (c.loop-number.invariant.stand x)
          (c.in_ok-push_statement.ensures.gains x s (lt, is));
      more = λ x. more_between x r c.args.given.now c.args.from c.loop-number.number s [] c.loop-number.plan.steps.items c.push_statement.new.plan.steps.items c.loop-number.invariant.past lt is (c.loop-number.invariant.more x)
          (c.in_ok-push_statement.ensures.more x s (lt, is));
    }

pub returns-clause-stand : goal.returns-clause-stand
returns-clause-stand c = λ x.
    let end : c.loop-number.number ≡ c.args.to = omega (arith, c.loop-number-test.false, c.loop-number.invariant.within) in
    subst (λ (n : ℕ). StandFor x (records_between c.args.both.now) c.args.given.now c.loop-number.plan.steps.items (support_of c.loop-number.plan) (moves_by x (records_between c.args.both.now) (items_between c.args.from n c.args.given.now))) end
    (c.loop-number.invariant.stand x)

pub returns-clause-count : goal.returns-clause-count
returns-clause-count c = λ x.
    let r : Records = records_between c.args.both.now in
    let end : c.loop-number.number ≡ c.args.to = omega (arith, c.loop-number-test.false, c.loop-number.invariant.within) in
    all_told r (moves_by x r (items_between c.args.from c.args.to c.args.given.now)) [] c.loop-number.plan.steps.items refl
    (subst (λ (n : ℕ). AreMore r (moves_by x r (items_between c.args.from n c.args.given.now)) [] c.loop-number.plan.steps.items) end (c.loop-number.invariant.more x))
