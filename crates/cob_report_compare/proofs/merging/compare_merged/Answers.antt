use Rattle.std.proofs.Common.{rules, arith, ◌≡◌, ◌+◌, ◌∙◌, sym, ap, subst, false, Err}
use Rattle.std.proofs.lemmas.Result.{err_from_is_err_and}
use Rattle.cob_convert_stream.specs.declared.fault.Reason.{Reason}
use Rattle.cob_convert_stream.specs.Reasons.{is_read_cause, is_write_cause}
use Rattle.cob_report_compare.specs.declared.files.CompareStop.{CompareStop}
use Rattle.cob_report_compare.specs.declared.files.FileSide.TheVariants.{Left, Right}
use Rattle.cob_report_compare.specs.declared.files.StopReason.TheVariants.{Record}
use Rattle.cob_report_compare.specs.declared.turns.Turn.{Turn}
use Rattle.cob_report_compare.specs.Merged.{file_pair}
use Rattle.cob_report_compare.specs.Merging.{IsTurn}
use Rattle.cob_report_compare.proofs.MergeLemmas.{MergedSoFar, all_told, all_written, both_filled, both_whole, counts_few, either_kept, few_are, left_failed, left_filled, left_kept, left_number_few, left_stops, none_merged, not_written, right_failed, right_filled, right_kept, right_number_few, right_stops, told_limit, turn_here, turn_told, turn_unprinted}
use Rattle.cob_report_compare.proofs.merging.compare_merged.Goals as goal

pub loop-done-init : goal.loop-done-init
loop-done-init g c = record {
  left_room = search rules;
  right_room = search rules;
  so_far = rw (c.none-counts.ensures, c.nothing-left_at.ensures, c.nothing-right_at.ensures) (none_merged (file_pair c.args.files) c.args.left_room.now c.args.right_room.now
      (g.L.Source.coming c.args.left.now) (g.R.Source.coming c.args.right.now) (g.W.Sink.taken c.args.sink.now));
  writes = search rules;
  left_reads = search rules;
  right_reads = search rules;
}

pub fill-requires-clause-few : goal.fill-requires-clause-few
fill-requires-clause-few g c = λ unread.
    let few = left_number_few (file_pair c.args.files) c.loop-done.done c.loop-done.counts c.loop-done.left_at c.loop-done.right_at c.loop-done.left_room c.loop-done.right_room _ _ _ _ _ _ c.loop-done.invariant.so_far unread in
    omega (arith, few, c.loop-done-test.true)

pub fill-requires-in-loop-done-clause-few : goal.fill-requires-in-loop-done-clause-few
fill-requires-in-loop-done-clause-few g c = λ unread.
    let first = left_filled (file_pair c.args.files) c.loop-done.done c.loop-done.counts c.loop-done.left_at c.loop-done.right_at c.in_ok-left_now.left_now c.loop-done.left_room c.fill.new.room c.loop-done.right_room _ _ _ _ _ _ _
    c.loop-done.invariant.so_far c.in_ok-left_now.ensures.next in
    let few = right_number_few (file_pair c.args.files) c.loop-done.done c.loop-done.counts c.in_ok-left_now.left_now c.loop-done.right_at _ _ _ _ _ _ _ _ first unread in
    omega (arith, few, c.loop-done-test.true)

pub returns-in_err-left_now-clause-merges : goal.returns-in_err-left_now-clause-merges
returns-in_err-left_now-clause-merges g c =
    let stop = c.in_err-left_now.field-0.0 in
    let p = err_from_is_err_and c.from_residual.result c.from_residual.ensures.1 in
    rw (p.1, p.2) (left_stops (file_pair c.args.files) c.loop-done.done c.loop-done.counts c.loop-done.left_at c.loop-done.right_at c.loop-done.left_room c.loop-done.right_room stop _ _ _ _ _ _ _ c.loop-done.invariant.so_far
    c.in_err-left_now.ensures.stops c.in_err-left_now.ensures.side c.in_err-left_now.ensures.reading)

pub returns-in_err-left_now-clause-left_reads : goal.returns-in_err-left_now-clause-left_reads
returns-in_err-left_now-clause-left_reads g c =
    let p = err_from_is_err_and c.from_residual.result c.from_residual.ensures.1 in
    rw (p.1, p.2) (left_failed is_read_cause c.in_err-left_now.field-0.0 _ _ _ c.in_err-left_now.ensures.side c.loop-done.invariant.left_reads c.in_err-left_now.ensures.reads)

pub returns-in_err-left_now-clause-right_reads : goal.returns-in_err-left_now-clause-right_reads
returns-in_err-left_now-clause-right_reads g c =
    let p = err_from_is_err_and c.from_residual.result c.from_residual.ensures.1 in
    rw (p.1, p.2) (right_kept is_read_cause c.in_err-left_now.field-0.0 _ _ c.in_err-left_now.ensures.side c.loop-done.invariant.right_reads)

pub returns-in_err-left_now-clause-writes : goal.returns-in_err-left_now-clause-writes
returns-in_err-left_now-clause-writes g c =
    let p = err_from_is_err_and c.from_residual.result c.from_residual.ensures.1 in
    rw (p.1, p.2) (all_written is_write_cause c.in_err-left_now.field-0.0 _ _ c.in_err-left_now.ensures.reading c.loop-done.invariant.writes)

pub returns-in_err-right_now-clause-merges : goal.returns-in_err-right_now-clause-merges
returns-in_err-right_now-clause-merges g c =
    let stop = c.in_err-right_now.field-0.0 in
    let first = left_filled (file_pair c.args.files) c.loop-done.done c.loop-done.counts c.loop-done.left_at c.loop-done.right_at c.in_ok-left_now.left_now c.loop-done.left_room c.fill.new.room c.loop-done.right_room _ _ _ _ _ _ _
    c.loop-done.invariant.so_far c.in_ok-left_now.ensures.next in
    let p = err_from_is_err_and c.from_residual-in_err-right_now.result c.from_residual-in_err-right_now.ensures.1 in
    rw (p.1, p.2) (right_stops (file_pair c.args.files) c.loop-done.done c.loop-done.counts c.in_ok-left_now.left_now c.loop-done.right_at c.fill.new.room c.loop-done.right_room stop _ _ _ _ _ _ _ first
    c.in_err-right_now.ensures.stops c.in_err-right_now.ensures.side c.in_err-right_now.ensures.reading)

pub returns-in_err-right_now-clause-left_reads : goal.returns-in_err-right_now-clause-left_reads
returns-in_err-right_now-clause-left_reads g c =
    let p = err_from_is_err_and c.from_residual-in_err-right_now.result c.from_residual-in_err-right_now.ensures.1 in
    rw (p.1, p.2) (left_kept is_read_cause c.in_err-right_now.field-0.0 _ _ c.in_err-right_now.ensures.side (c.in_ok-left_now.ensures.reads ∙ c.loop-done.invariant.left_reads))

pub returns-in_err-right_now-clause-right_reads : goal.returns-in_err-right_now-clause-right_reads
returns-in_err-right_now-clause-right_reads g c =
    let p = err_from_is_err_and c.from_residual-in_err-right_now.result c.from_residual-in_err-right_now.ensures.1 in
    rw (p.1, p.2) (right_failed is_read_cause c.in_err-right_now.field-0.0 _ _ _ c.in_err-right_now.ensures.side c.loop-done.invariant.right_reads c.in_err-right_now.ensures.reads)

pub returns-in_err-right_now-clause-writes : goal.returns-in_err-right_now-clause-writes
returns-in_err-right_now-clause-writes g c =
    let p = err_from_is_err_and c.from_residual-in_err-right_now.result c.from_residual-in_err-right_now.ensures.1 in
    rw (p.1, p.2) (all_written is_write_cause c.in_err-right_now.field-0.0 _ _ c.in_err-right_now.ensures.reading c.loop-done.invariant.writes)

pub returns-in-Done-clause-merges : goal.returns-in-Done-clause-merges
returns-in-Done-clause-merges g c =
    let both = both_filled (file_pair c.args.files) c.loop-done.done c.loop-done.counts c.loop-done.left_at c.loop-done.right_at c.in_ok-left_now.left_now c.in_ok-right_now.right_now c.loop-done.left_room
    c.fill.new.room c.loop-done.right_room c.fill-in-loop-done.new.room _ _ _ _ _ _ _ _ c.loop-done.invariant.so_far c.in_ok-left_now.ensures.next c.in_ok-right_now.ensures.next in
    let is = turn_here (file_pair c.args.files) c.turn_of-turn.result c.loop-done.done c.loop-done.counts c.in_ok-left_now.left_now c.in_ok-right_now.right_now c.fill.new.room c.fill-in-loop-done.new.room _ _ _ _ _ _ both c.turn_of-turn.ensures in
    all_told (file_pair c.args.files) c.loop-done.done c.loop-done.counts c.in_ok-left_now.left_now c.in_ok-right_now.right_now c.fill.new.room c.fill-in-loop-done.new.room _ _ _ _ _ _ both
    (subst (λ (t : Turn). IsTurn both.left both.right t) c.in-Done.is is)

pub returns-in-Done-clause-few : goal.returns-in-Done-clause-few
returns-in-Done-clause-few g c =
    let all = counts_few (file_pair c.args.files) c.loop-done.done c.loop-done.counts c.loop-done.left_at c.loop-done.right_at _ _ _ _ _ _ _ _ c.loop-done.invariant.so_far in
    few_are c.loop-done.counts (omega (arith, all, c.loop-done-test.true))

pub tell_turn-requires : goal.tell_turn-requires
tell_turn-requires g c =
    let both = both_filled (file_pair c.args.files) c.loop-done.done c.loop-done.counts c.loop-done.left_at c.loop-done.right_at c.in_ok-left_now.left_now c.in_ok-right_now.right_now c.loop-done.left_room
    c.fill.new.room c.loop-done.right_room c.fill-in-loop-done.new.room _ _ _ _ _ _ _ _ c.loop-done.invariant.so_far c.in_ok-left_now.ensures.next c.in_ok-right_now.ensures.next in
    let is = turn_here (file_pair c.args.files) c.turn_of-turn.result c.loop-done.done c.loop-done.counts c.in_ok-left_now.left_now c.in_ok-right_now.right_now c.fill.new.room c.fill-in-loop-done.new.room _ _ _ _ _ _ both c.turn_of-turn.ensures in
    let all = counts_few (file_pair c.args.files) c.loop-done.done c.loop-done.counts c.loop-done.left_at c.loop-done.right_at _ _ _ _ _ _ _ _ c.loop-done.invariant.so_far in
    record {
      some = c.in_default.not-Done;
      items = c.requires.items;
      left = λ pair. (both_whole (file_pair c.args.files) c.turn_of-turn.result c.loop-done.done c.loop-done.counts c.in_ok-left_now.left_now c.in_ok-right_now.right_now c.fill.new.room c.fill-in-loop-done.new.room _ _ _ _ _ _ both is pair).0;
      right = λ pair. (both_whole (file_pair c.args.files) c.turn_of-turn.result c.loop-done.done c.loop-done.counts c.in_ok-left_now.left_now c.in_ok-right_now.right_now c.fill.new.room c.fill-in-loop-done.new.room _ _ _ _ _ _ both is pair).1;
      left_key = c.fill.ensures.room.key;
      right_key = c.fill-in-loop-done.ensures.room.key;
      few = omega (arith, all, c.loop-done-test.true);
    }

pub returns-in_err-counts : goal.returns-in_err-counts
returns-in_err-counts g c =
    let both = both_filled (file_pair c.args.files) c.loop-done.done c.loop-done.counts c.loop-done.left_at c.loop-done.right_at c.in_ok-left_now.left_now c.in_ok-right_now.right_now c.loop-done.left_room
    c.fill.new.room c.loop-done.right_room c.fill-in-loop-done.new.room _ _ _ _ _ _ _ _ c.loop-done.invariant.so_far c.in_ok-left_now.ensures.next c.in_ok-right_now.ensures.next in
    let is = turn_here (file_pair c.args.files) c.turn_of-turn.result c.loop-done.done c.loop-done.counts c.in_ok-left_now.left_now c.in_ok-right_now.right_now c.fill.new.room c.fill-in-loop-done.new.room _ _ _ _ _ _ both c.turn_of-turn.ensures in
    let p = err_from_is_err_and c.from_residual-in_err-counts.result c.from_residual-in_err-counts.ensures.1 in
    record {
      merges = rw (p.1, p.2) (turn_unprinted (file_pair c.args.files) c.turn_of-turn.result c.loop-done.done c.loop-done.counts c.in_ok-left_now.left_now c.in_ok-right_now.right_now c.fill.new.room c.fill-in-loop-done.new.room c.in_err-counts.field-0.0 _ _ _ _ _ _ _
          both is c.in_default.not-Done c.in_err-counts.ensures.stop c.in_err-counts.ensures.writing);
      few = rw p.1 tt;
      left_reads = rw (p.1, p.2) (either_kept Left is_read_cause c.in_err-counts.field-0.0 _ _ c.in_err-counts.ensures.reading (c.in_ok-left_now.ensures.reads ∙ c.loop-done.invariant.left_reads));
      right_reads = rw (p.1, p.2) (either_kept Right is_read_cause c.in_err-counts.field-0.0 _ _ c.in_err-counts.ensures.reading (c.in_ok-right_now.ensures.reads ∙ c.loop-done.invariant.right_reads));
      writes = rw (p.1, p.2) (not_written is_write_cause c.in_err-counts.field-0.0 _ _ _ c.loop-done.invariant.writes c.in_err-counts.ensures.writes);
    }

pub loop-done-preserved : goal.loop-done-preserved
loop-done-preserved g c =
    let both = both_filled (file_pair c.args.files) c.loop-done.done c.loop-done.counts c.loop-done.left_at c.loop-done.right_at c.in_ok-left_now.left_now c.in_ok-right_now.right_now c.loop-done.left_room
    c.fill.new.room c.loop-done.right_room c.fill-in-loop-done.new.room _ _ _ _ _ _ _ _ c.loop-done.invariant.so_far c.in_ok-left_now.ensures.next c.in_ok-right_now.ensures.next in
    let is = turn_here (file_pair c.args.files) c.turn_of-turn.result c.loop-done.done c.loop-done.counts c.in_ok-left_now.left_now c.in_ok-right_now.right_now c.fill.new.room c.fill-in-loop-done.new.room _ _ _ _ _ _ both c.turn_of-turn.ensures in
    record {
      left_room = search rules;
      right_room = search rules;
      so_far = rw (c.left_behind-left_at.ensures, c.right_behind-right_at.ensures) (turn_told (file_pair c.args.files) c.turn_of-turn.result c.loop-done.done c.loop-done.counts c.in_ok-counts.counts
          c.in_ok-left_now.left_now c.in_ok-right_now.right_now c.fill.new.room c.fill-in-loop-done.new.room _ _ _ _ _ _ _ both is c.in_ok-counts.ensures.tells);
      writes = search rules;
      left_reads = search rules;
      right_reads = search rules;
    }

pub returns-clause-merges : goal.returns-clause-merges
returns-clause-merges g c =
    let end : c.loop-done.done ≡ 18446744073709551614 = omega (arith, c.loop-done-test.false, c.loop-done.auto.done-end) in
    told_limit (file_pair c.args.files) c.loop-done.done c.loop-done.counts c.loop-done.left_at c.loop-done.right_at _ _ c.stop_on.result _ _ _ _ _ _ c.loop-done.invariant.so_far end
    (c.stop_on.ensures ∙ ap (λ (why : Reason). record { side = Left; number = 18446744073709551615; reason = Record why }) c.limit_reason.ensures)
