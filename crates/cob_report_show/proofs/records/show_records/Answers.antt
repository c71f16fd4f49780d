use Rattle.std.proofs.Common.{rules, arith, ◌≡◌, ◌+◌, ◌∙◌, ℕ, ap, take, Err}
use Rattle.cob_move_data.specs.declared.operands.Side.TheVariants.{In}
use Rattle.cob_convert_stream.specs.declared.fault.Cause.TheVariants.{Limit}
use Rattle.cob_report_show.specs.declared.records.ShowFault.{ShowFault}
use Rattle.cob_report_show.specs.declared.records.ShowFault.TheVariants.{Run}
use Rattle.cob_report_show.specs.Elements.{Printed}
use Rattle.cob_report_show.specs.Lines.{AreRecordLines, BeginRecordLines}
use Rattle.cob_report_show.proofs.RunLemmas.{fault_for, none_listed, one_listed, clean_end, read_end, write_end, limit_end}
use Rattle.cob_report_show.proofs.records.show_records.Goals as goal

pub loop-done-init : goal.loop-done-init
loop-done-init g c = record {
  bytes = search rules;
  room = search rules;
  so_far = none_listed c.args.shown.form c.args.shown.layout.now (g.R.Source.coming c.args.source.now) (g.W.Sink.taken c.args.sink.now);
  reads = search rules;
  writes = search rules;
  errors = search rules;
}

pub loop-done-preserved : goal.loop-done-preserved
loop-done-preserved g c =
    let r : Printed = record { tree = c.args.shown.layout.now; places = c.read_record.new.places; bytes = take c.in-Ok-Some.count c.read_record.new.bytes } in
    let next = rw c.in-Ok-Some.field-0-is at c.in-Ok-Some.ensures.next in
    let whole = rw c.in-Ok-Some.field-0-is at c.in-Ok-Some.ensures.whole in
    let legible = rw c.in-Ok-Some.field-0-is at c.in-Ok-Some.ensures.legible in
    record {
      bytes = search rules;
      room = search rules;
      so_far = one_listed c.args.shown.form c.args.shown.layout.now c.loop-done.done c.loop-done.written c.put_lines.new.sent c.loop-done.left c.read_record.new.left c.in-Ok-Some.count c.read_record.new.bytes c.read_record.new.places
          (BeginRecordLines r (c.loop-done.done + 1)) _ (g.R.Source.coming c.loop-done.source) _ _ (g.W.Sink.taken c.loop-done.sink) _ c.loop-done.invariant.so_far next whole legible c.in_default.ensures.lines;
      reads = search rules;
      writes = search rules;
      errors = search rules;
    }

pub returns-in-Ok-None-clause-shows : goal.returns-in-Ok-None-clause-shows
returns-in-Ok-None-clause-shows g c =
    clean_end c.args.shown.form c.args.shown.layout.now c.loop-done.done c.loop-done.written c.loop-done.left c.read_record.new.left c.read_record.new.bytes _ (g.R.Source.coming c.loop-done.source) _ _ _
    c.loop-done.invariant.so_far (omega (arith, c.loop-done-test.true)) (rw c.in-Ok-None.field-0-is at c.in-Ok-None.ensures.next)

pub returns-in-Err-clause-shows : goal.returns-in-Err-clause-shows
returns-in-Err-clause-shows g c =
    read_end c.args.shown.form c.args.shown.layout.now c.loop-done.done c.loop-done.written c.loop-done.left c.read_record.new.left c.in-Err.reason c.read_record.new.bytes (Err c.stop_at.result) _ (g.R.Source.coming c.loop-done.source) _ _ _
    c.loop-done.invariant.so_far (omega (arith, c.loop-done-test.true)) c.in-Err.ensures.next (ap (λ (f : ShowFault). Err f) c.stop_at.ensures)

pub returns-in-Err-put_lines-clause-shows : goal.returns-in-Err-put_lines-clause-shows
returns-in-Err-put_lines-clause-shows g c =
    let r : Printed = record { tree = c.args.shown.layout.now; places = c.read_record.new.places; bytes = take c.in-Ok-Some.count c.read_record.new.bytes } in
    let next = rw c.in-Ok-Some.field-0-is at c.in-Ok-Some.ensures.next in
    let whole = rw c.in-Ok-Some.field-0-is at c.in-Ok-Some.ensures.whole in
    let legible = rw c.in-Ok-Some.field-0-is at c.in-Ok-Some.ensures.legible in
    write_end c.args.shown.form c.args.shown.layout.now c.loop-done.done c.loop-done.written c.put_lines.new.sent c.loop-done.left c.read_record.new.left c.in-Ok-Some.count c.in-Err-put_lines.fault c.read_record.new.bytes c.read_record.new.places
    (AreRecordLines r (c.loop-done.done + 1)) (Err c.stop_at-in-Err-put_lines.result) _ (g.R.Source.coming c.loop-done.source) _ _ (g.W.Sink.taken c.loop-done.sink) _ c.loop-done.invariant.so_far (omega (arith, c.loop-done-test.true)) next whole legible
    c.in-Err-put_lines.ensures.lines (ap (λ (f : ShowFault). Err f) (c.stop_at-in-Err-put_lines.ensures ∙ ap (fault_for (c.loop-done.done + 1) c.put_lines.new.sent) c.of_write.ensures))

pub returns-clause-shows : goal.returns-clause-shows
returns-clause-shows g c =
    let end : c.loop-done.done ≡ 18446744073709551614 = omega (arith, c.loop-done-test.false, c.loop-done.auto.done-end) in
    let number : 18446744073709551615 ≡ c.loop-done.done + 1 = omega (arith, end) in
    limit_end c.args.shown.form c.args.shown.layout.now c.loop-done.done c.loop-done.written c.loop-done.left (Err c.stop_at-2.result) _ _ _ _ c.loop-done.invariant.so_far end
    (ap (λ (f : ShowFault). Err f) (c.stop_at-2.ensures ∙ ap (fault_for 18446744073709551615 c.loop-done.written) c.limit_reason.ensures)
    ∙ ap (λ (n : ℕ). Err (Run (record { number = n; side = In; offset = 0; cause = Limit; written = c.loop-done.written }))) number)
