use Rattle.cob_move_data.proofs.SingleLemmas.{mapped_done, mapped_more}
use Rattle.cob_move_data.specs.Singles.{plain_single}
use Rattle.cob_report_map.specs.Joined.{ends_in, single_ends}
use Rattle.cob_report_map.proofs.joined.ends_of.Goals as goal

pub loop-single-preserved : goal.loop-single-preserved
loop-single-preserved c =
    mapped_more single_ends (ends_in c.args.statements.now) c.loop-single.single-iterator c.next.new.self (plain_single c.in-Some.single) c.single_ends.result
    c.loop-single.ends.items c.push.new.self.items c.in-Some.ensures.steps c.single_ends.ensures c.in_ok-push.ensures.items c.loop-single.invariant

pub returns : goal.returns
returns c = mapped_done single_ends (ends_in c.args.statements.now) c.loop-single.single-iterator c.loop-single.ends.items c.in-None.ensures.steps.0 c.loop-single.invariant
