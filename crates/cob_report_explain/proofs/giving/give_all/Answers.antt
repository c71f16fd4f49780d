use Rattle.std.proofs.Common.{◌∙◌, refl}
use Rattle.std.proofs.lemmas.Result.{err_from_is_err_and}
use Rattle.cob_move_data.specs.Moves.{IsOperand, operand_in}
use Rattle.cob_move_apply.specs.Placed.{content_of}
use Rattle.cob_report_explain.specs.Seen.{move_of}
use Rattle.cob_report_explain.proofs.EachLemmas.{give_all, give_more, give_none, give_stops, operand_at}
use Rattle.cob_report_explain.proofs.giving.give_all.Goals as goal

pub loop-index-init : goal.loop-index-init
loop-index-init g c = record {
  seen = give_none c.args.layout.now (move_of c.args.parts.now) (content_of c.args.given.now) c.args.parts.now.receivers.now c.args.output.now (g.W.Watcher.seen c.args.watcher.now);
  output = refl;
  room = c.requires.room;
}

pub give_one-requires-clause-operand : goal.give_one-requires-clause-operand
give_one-requires-clause-operand g c =
    operand_at (IsOperand c.args.layout.now) (operand_in c.args.layout.now) c.args.parts.now.receivers.now c.loop-index.index c.entry-item.result c.loop-index-test.true c.entry-item.is c.requires.receivers

pub loop-index-preserved : goal.loop-index-preserved
loop-index-preserved g c = record {
  seen = give_more c.args.layout.now (move_of c.args.parts.now) (content_of c.args.given.now) c.args.parts.now.receivers.now c.loop-index.index c.entry-item.result c.args.output.now c.loop-index.output
      c.give_one.new.output (g.W.Watcher.seen c.args.watcher.now) (g.W.Watcher.seen c.loop-index.watcher) (g.W.Watcher.seen c.give_one.new.watcher) c.loop-index-test.true c.entry-item.is
      c.loop-index.invariant.seen c.in_ok-give_one.ensures.gives;
  output = c.give_one.auto.output ∙ c.loop-index.invariant.output;
  room = c.in_ok-give_one.ensures.room;
}

pub returns-in_err-give_one-clause-seen : goal.returns-in_err-give_one-clause-seen
returns-in_err-give_one-clause-seen g c =
    let p = err_from_is_err_and c.from_residual.result c.from_residual.ensures.1 in
    rw (p.1, p.2)
    (give_stops c.args.layout.now (move_of c.args.parts.now) (content_of c.args.given.now) c.args.parts.now.receivers.now c.loop-index.index c.entry-item.result c.args.output.now c.loop-index.output
    c.give_one.new.output (g.W.Watcher.seen c.args.watcher.now) (g.W.Watcher.seen c.loop-index.watcher) (g.W.Watcher.seen c.give_one.new.watcher) c.in_err-give_one.field-0.0 c.loop-index-test.true c.entry-item.is
    c.loop-index.invariant.seen c.in_err-give_one.ensures.stops c.in_err-give_one.ensures.same c.in_err-give_one.ensures.unseen)

pub returns-clause-seen : goal.returns-clause-seen
returns-clause-seen g c =
    give_all c.args.layout.now (move_of c.args.parts.now) (content_of c.args.given.now) c.args.parts.now.receivers.now c.loop-index.index c.args.output.now c.loop-index.output
    (g.W.Watcher.seen c.args.watcher.now) (g.W.Watcher.seen c.loop-index.watcher) c.loop-index-test.false c.loop-index.invariant.seen
