use Rattle.std.proofs.Common.{sym, ◌∙◌, refl}
use Rattle.cob_move_apply.specs.Joined.{copy_ends}
use Rattle.cob_move_apply.specs.declared.step.Step.TheVariants.{Copy}
use Rattle.cob_move_apply.proofs.JoinLemmas.{apart_count, joined_count, last_ends}
use Rattle.cob_move_apply.proofs.PlanLemmas.{with_last, by_itself}
use Rattle.cob_move_apply.proofs.planning.push_copy.Goals as goal

pub returns-in-Some-joined-clause-steps : goal.returns-in-Some-joined-clause-steps
returns-in-Some-joined-clause-steps c = λ x r given on parts next are copied.
    with_last x r given on c.args.steps.now.items c.pop.new.self.items c.push-in-Some-joined.new.self.items c.in-Some.last c.in-Some-joined.both parts next
    c.in-Some.ensures.items c.in_ok-push-2.ensures.items are
    (λ own is. c.in-Some-joined.ensures.copied x r given on own next is copied)

pub returns-in-Some-joined-clause-count : goal.returns-in-Some-joined-clause-count
returns-in-Some-joined-clause-count c =
    joined_count c.args.steps.now.items c.pop.new.self.items c.push-in-Some-joined.new.self.items c.in-Some.last c.in-Some-joined.both c.args.places
    c.in-Some.ensures.items c.in_ok-push-2.ensures.items c.in-Some-joined.ensures.counts c.in-Some-joined.ensures.joins

pub returns-in-Some-joined-clause-ends : goal.returns-in-Some-joined-clause-ends
returns-in-Some-joined-clause-ends c =
    last_ends c.pop.new.self.items c.push-in-Some-joined.new.self.items c.in-Some-joined.both (copy_ends c.args.places) c.in_ok-push-2.ensures.items c.in-Some-joined.ensures.ends

pub returns-clause-steps : goal.returns-clause-steps
returns-clause-steps c = λ x r given on parts next are copied.
    by_itself x r given on c.args.steps.now.items c.push-2.new.self.items c.push-3.new.self.items (Copy c.args.places) parts next
    (c.in-Some.ensures.items ∙ sym c.in_ok-push-3.ensures.items) c.in_ok-push-4.ensures.items are copied

pub returns-clause-count : goal.returns-clause-count
returns-clause-count c =
    apart_count c.args.steps.now.items c.pop.new.self.items c.push-2.new.self.items c.push-3.new.self.items c.in-Some.last c.args.places
    c.in-Some.ensures.items (c.in_ok-push-3.ensures.items ∙ sym c.in-Some.ensures.items) c.in_ok-push-4.ensures.items c.in_default-joined.ensures.none

pub returns-clause-ends : goal.returns-clause-ends
returns-clause-ends c =
    last_ends c.push-2.new.self.items c.push-3.new.self.items (Copy c.args.places) (copy_ends c.args.places) c.in_ok-push-4.ensures.items refl
