use Rattle.std.proofs.Common.{rules, refl}
use Rattle.cob_records_parts.proofs.Cutting.{told_begun, told_ended, told_full, told_more, told_stopped}
use Rattle.cob_records_parts.proofs.stream.cut_stream.Goals as goal

pub loop-done-init : goal.loop-done-init
loop-done-init g c = record {
  so_far = told_begun c.args.form c.args.greatest c.new-pieces.result.items (g.R.Source.coming c.args.source.now) (search rules);
  order = search rules;
  few = search rules;
  bound = search rules;
  room = search rules;
  cause = search rules;
}

pub loop-done-preserved : goal.loop-done-preserved
loop-done-preserved g c = record {
  so_far = told_more c.args.form c.args.greatest c.loop-done.pieces.items c.close_full.new.pieces.items c.loop-done.start _ c.in_ok-start.start c.loop-done.offset c.loop-done.done c.loop-done.left c.in-Ok-Whole.size c.next_frame.new.left
      _ (g.R.Source.coming c.loop-done.source) (g.R.Source.coming c.next_frame.new.source) c.loop-done.invariant.so_far (rw c.in-Ok-Whole.field-0-is at c.in-Ok-Whole.ensures.finds) refl refl c.in_ok-start.ensures.closes;
  order = search rules;
  few = search rules;
  bound = search rules;
  room = search rules;
  cause = search rules;
}

pub returns-in-Ok-Last-clause-cut : goal.returns-in-Ok-Last-clause-cut
returns-in-Ok-Last-clause-cut g c =
    told_ended c.args.form c.args.greatest c.loop-done.pieces.items c.in_ok-finish-in-Ok-Last.field-0.items c.loop-done.start c.loop-done.offset c.loop-done.done c.loop-done.left c.in-Ok-Last.size c.next_frame.new.left
    _ (g.R.Source.coming c.loop-done.source) (g.R.Source.coming c.next_frame.new.source) c.loop-done.invariant.so_far (rw c.in-Ok-Last.field-0-is at c.in-Ok-Last.ensures.finds) c.in_ok-finish-in-Ok-Last.ensures.last

pub returns-in-Err-clause-uncut : goal.returns-in-Err-clause-uncut
returns-in-Err-clause-uncut g c =
    told_stopped c.args.form c.args.greatest c.loop-done.pieces.items c.loop-done.start c.loop-done.offset c.loop-done.done c.loop-done.left c.next_frame.new.left _ c.in-Err.fault
    _ (g.R.Source.coming c.loop-done.source) (g.R.Source.coming c.next_frame.new.source) c.loop-done.invariant.so_far c.in-Err.ensures.finds refl

pub returns-clause-uncut : goal.returns-clause-uncut
returns-clause-uncut g c =
    told_full c.args.form c.args.greatest c.loop-done.pieces.items c.loop-done.start c.loop-done.offset c.loop-done.done c.loop-done.left _ (g.R.Source.coming c.loop-done.source)
    c.loop-done.invariant.so_far (search rules)
