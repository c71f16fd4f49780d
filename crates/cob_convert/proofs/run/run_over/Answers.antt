use Rattle.std.proofs.Common.{Bool, rules, arith, take, Some, ◌∙◌, ap, sym}
use Rattle.cob_records.specs.Device.{counted}
use Rattle.cob_convert_stream.specs.declared.fault.Reason.{Reason}
use Rattle.cob_convert_stream.specs.declared.fault.RunFault.{RunFault}
use Rattle.cob_convert_stream.specs.Reasons.{fault_at, is_read_cause, reason_of}
use Rattle.cob_convert.proofs.Carried.{clean_exit, emptied_again, fits_in, input_exit, limit_exit, reads_closed, reject_exit, step, write_exit}
use Rattle.cob_convert.proofs.Rejections.{rejected_unread}
use Rattle.cob_convert.proofs.run.run_over.Goals as goal

pub returns-in-Ok-None-clause-ran : goal.returns-in-Ok-None-clause-ran
returns-in-Ok-None-clause-ran g c =
    clean_exit c.args.conversion.now c.loop-done.done c.loop-done.written c.loop-done.left c.next_whole.new.left c.loop-done.outlet c.next_whole.new.slot c.close.result
    _ (g.R.Source.coming c.loop-done.source) _ _ (g.W.Sink.taken c.loop-done.sink) _
    c.loop-done.invariant.so_far (rw c.in-Ok-None.field-0-is at c.in-Ok-None.ensures.reads) (omega arith) c.close.ensures.closes

pub returns-in-Err-clause-ran : goal.returns-in-Err-clause-ran
returns-in-Err-clause-ran g c =
    input_exit c.args.conversion.now c.loop-done.done c.loop-done.written c.loop-done.left c.next_whole.new.left c.loop-done.outlet c.in-Err.why c.next_whole.new.slot c.close-in-Err.result
    _ (g.R.Source.coming c.loop-done.source) _ _ (g.W.Sink.taken c.loop-done.sink) _
    c.loop-done.invariant.so_far (rw c.in-Err.is at c.next_whole.ensures.reads) (omega arith) c.close-in-Err.ensures.closes

pub returns-in-Err-clause-reads : goal.returns-in-Err-clause-reads
returns-in-Err-clause-reads g c =
    reads_closed c.args.conversion.now c.loop-done.done c.loop-done.written c.loop-done.left c.loop-done.outlet (Some c.in-Err.why) c.close-in-Err.result
    _ (g.R.Source.coming c.loop-done.source) _ (g.W.Sink.taken c.loop-done.sink) _ _ _ _
    c.loop-done.invariant.so_far c.close-in-Err.ensures.closes (c.in-Err.ensures.cause ∙ ap (counted (is_read_cause c.in-Err.why.cause)) c.loop-done.invariant.reads)

pub returns-in-Err-converted-clause-ran : goal.returns-in-Err-converted-clause-ran
returns-in-Err-converted-clause-ran g c =
    reject_exit c.args.conversion.now c.loop-done.done c.loop-done.written c.loop-done.left c.next_whole.new.left c.in-Ok-Some.count c.loop-done.outlet c.in-Err-converted.rejected c.next_whole.new.slot c.close-in-Err-converted.result
    _ (g.R.Source.coming c.loop-done.source) _ _ (g.W.Sink.taken c.loop-done.sink) _
    c.loop-done.invariant.so_far (rw c.in-Ok-Some.field-0-is at c.in-Ok-Some.ensures.reads) (rw c.in-Ok-Some.field-0-is at c.in-Ok-Some.ensures.whole)
    c.in-Err-converted.ensures.rejects (omega arith) c.close-in-Err-converted.ensures.closes

pub returns-in-Err-converted-clause-reads : goal.returns-in-Err-converted-clause-reads
returns-in-Err-converted-clause-reads g c =
    let unread = rejected_unread c.args.conversion.now (take c.in-Ok-Some.count c.next_whole.new.slot) c.in-Err-converted.rejected c.in-Err-converted.ensures.rejects in
    reads_closed c.args.conversion.now c.loop-done.done c.loop-done.written c.loop-done.left c.loop-done.outlet (Some c.in-Err-converted.rejected) c.close-in-Err-converted.result
    _ (g.R.Source.coming c.loop-done.source) _ (g.W.Sink.taken c.loop-done.sink) _ _ _ _
    c.loop-done.invariant.so_far c.close-in-Err-converted.ensures.closes
    (c.in-Ok-Some.ensures.cause ∙ c.loop-done.invariant.reads ∙ ap (λ (b : Bool). counted b (g.R.Source.failures c.args.source.now)) (sym unread))

pub write_record-requires-clause-fits : goal.write_record-requires-clause-fits
write_record-requires-clause-fits g c =
    fits_in c.args.conversion.now c.loop-done.done c.loop-done.written c.loop-done.left c.loop-done.outlet (take c.in-Ok.made c.converted.new.output)
    _ (g.R.Source.coming c.loop-done.source) _ (g.W.Sink.taken c.loop-done.sink)
    c.loop-done.invariant.so_far c.requires.fits (search rules)

pub returns-in-Err-write_record-clause-ran : goal.returns-in-Err-write_record-clause-ran
returns-in-Err-write_record-clause-ran g c =
    write_exit c.args.conversion.now c.loop-done.done c.loop-done.written c.write_record.new.written c.loop-done.left c.next_whole.new.left c.in-Ok-Some.count c.in-Ok.made c.loop-done.outlet c.in-Err-write_record.fault _ c.next_whole.new.slot c.converted.new.output
    _ (g.R.Source.coming c.loop-done.source) _ _ (g.W.Sink.taken c.loop-done.sink) _
    c.loop-done.invariant.so_far (rw c.in-Ok-Some.field-0-is at c.in-Ok-Some.ensures.reads) c.in-Ok.ensures.converts (omega arith)
    c.in-Err-write_record.ensures.puts
    (ap reason_of c.at.ensures ∙ ap (λ (r : Reason). reason_of (fault_at 0 r 0)) c.of_write.ensures)
    (omega (arith, c.loop-done.invariant.so_far.few, c.from-held.ensures, c.held.ensures, ap (λ (f : RunFault). f.number) c.at.ensures))
    (ap (λ (f : RunFault). f.written) c.at.ensures)

pub returns-in-Err-write_record-clause-outlet : goal.returns-in-Err-write_record-clause-outlet
returns-in-Err-write_record-clause-outlet g c =
    emptied_again c.args.conversion.now c.loop-done.done c.loop-done.written c.loop-done.left c.loop-done.outlet _ _
    _ (g.R.Source.coming c.loop-done.source) _ (g.W.Sink.taken c.loop-done.sink)
    c.loop-done.invariant.so_far c.requires.outlet c.in-Err-write_record.ensures.emptied

pub loop-done-preserved : goal.loop-done-preserved
loop-done-preserved g c = record {
  so_far = step c.args.conversion.now c.loop-done.done c.loop-done.written c.write_record.new.written c.in-Ok-Some.count c.in-Ok.made c.loop-done.left c.next_whole.new.left c.loop-done.outlet c.write_record.new.outlet c.next_whole.new.slot c.converted.new.output
      _ (g.R.Source.coming c.loop-done.source) _ _ (g.W.Sink.taken c.loop-done.sink) _
      c.loop-done.invariant.so_far (rw c.in-Ok-Some.field-0-is at c.in-Ok-Some.ensures.reads) c.in-Ok.ensures.converts
      c.in_default.ensures.puts c.in_default.ensures.added;
  reads = search rules;
  writes = search rules;
  room = search rules;
  errors = search rules;
}

pub returns-clause-ran : goal.returns-clause-ran
returns-clause-ran g c =
    limit_exit c.args.conversion.now c.loop-done.done c.loop-done.written c.loop-done.left c.loop-done.outlet c.close-2.result
    _ (g.R.Source.coming c.loop-done.source) _ (g.W.Sink.taken c.loop-done.sink) _
    c.loop-done.invariant.so_far (search rules) c.close-2.ensures.closes

pub returns-in-Ok-None-clause-outlet : goal.returns-in-Ok-None-clause-outlet
returns-in-Ok-None-clause-outlet g c =
    emptied_again c.args.conversion.now c.loop-done.done c.loop-done.written c.loop-done.left c.loop-done.outlet _ _
    _ (g.R.Source.coming c.loop-done.source) _ (g.W.Sink.taken c.loop-done.sink)
    c.loop-done.invariant.so_far c.requires.outlet c.close.ensures.emptied

pub returns-in-Err-clause-outlet : goal.returns-in-Err-clause-outlet
returns-in-Err-clause-outlet g c =
    emptied_again c.args.conversion.now c.loop-done.done c.loop-done.written c.loop-done.left c.loop-done.outlet _ _
    _ (g.R.Source.coming c.loop-done.source) _ (g.W.Sink.taken c.loop-done.sink)
    c.loop-done.invariant.so_far c.requires.outlet c.close-in-Err.ensures.emptied

pub returns-in-Err-converted-clause-outlet : goal.returns-in-Err-converted-clause-outlet
returns-in-Err-converted-clause-outlet g c =
    emptied_again c.args.conversion.now c.loop-done.done c.loop-done.written c.loop-done.left c.loop-done.outlet _ _
    _ (g.R.Source.coming c.loop-done.source) _ (g.W.Sink.taken c.loop-done.sink)
    c.loop-done.invariant.so_far c.requires.outlet c.close-in-Err-converted.ensures.emptied

pub returns-clause-outlet : goal.returns-clause-outlet
returns-clause-outlet g c =
    emptied_again c.args.conversion.now c.loop-done.done c.loop-done.written c.loop-done.left c.loop-done.outlet _ _
    _ (g.R.Source.coming c.loop-done.source) _ (g.W.Sink.taken c.loop-done.sink)
    c.loop-done.invariant.so_far c.requires.outlet c.close-2.ensures.emptied
