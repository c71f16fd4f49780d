use Rattle.cob_move_data.specs.Singles.{plain_single, singles_of}
use Rattle.cob_report_cover.proofs.LosingLemmas.{each_done, each_more}
use Rattle.cob_report_cover.proofs.losses.losses_in.Goals as goal

pub loop-single-preserved : goal.loop-single-preserved
loop-single-preserved c =
    each_more c.args.moves.now.layouts (singles_of c.args.moves.now.statements.now) c.loop-single.single-iterator c.next.new.self (plain_single c.in-Some.single)
    c.single_losses.result c.loop-single.losses.items c.push.new.self.items c.in-Some.ensures.steps c.single_losses.ensures c.in_ok-push.ensures.items c.loop-single.invariant

pub returns : goal.returns
returns c =
    each_done c.args.moves.now.layouts (singles_of c.args.moves.now.statements.now) c.loop-single.single-iterator c.loop-single.losses.items
    c.in-None.ensures.steps.0 c.loop-single.invariant
