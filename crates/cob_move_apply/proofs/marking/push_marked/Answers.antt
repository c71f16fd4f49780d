use Rattle.std.proofs.Common.{arith}
use Rattle.cob_move_apply.specs.Planned.{records_between}
use Rattle.cob_move_apply.specs.Steps.{support_of}
use Rattle.cob_move_apply.proofs.MarkLemmas.{ends_pushed, mark_last_of, parted_by_more}
use Rattle.cob_move_apply.proofs.marking.push_marked.Goals as goal

pub returns-clause-parted : goal.returns-clause-parted
returns-clause-parted c =
    parted_by_more (records_between c.args.both.now) c.args.given.now (support_of c.args.plan.now) (support_of c.push_some.new.plan) c.args.steps.now.items c.push_some.new.plan.steps.items c.take_steps.new.steps.items
    c.args.marks.now.items c.push.new.self.items (record { statement = c.args.end; step = c.len.result }) c.args.begin
    c.in_ok-push_some.ensures.grows c.in_ok-take_steps.ensures.taken c.in_ok-push.ensures.items (omega (arith, c.len.ensures, c.take_steps.new.steps.ok.0)) c.requires.begin c.requires.rises c.requires.parted
    c.in_ok-push_some.ensures.stand c.in_ok-push_some.ensures.count

pub returns-clause-end : goal.returns-clause-end
returns-clause-end c = mark_last_of c.args.marks.now.items c.push.new.self.items (record { statement = c.args.end; step = c.len.result }) c.in_ok-push.ensures.items

pub returns-clause-ends : goal.returns-clause-ends
returns-clause-ends c = ends_pushed c.args.marks.now.items c.push.new.self.items (record { statement = c.args.end; step = c.len.result }) c.in_ok-push.ensures.items
