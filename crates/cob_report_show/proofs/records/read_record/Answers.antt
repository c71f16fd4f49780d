-- A record that came whole with valid counts, as long as they say; else the stop.
use Rattle.std.proofs.Common.{rules, refl}
use Rattle.cob_report_show.proofs.RecordLemmas.{holds_record, length_fits}
use Rattle.cob_report_show.proofs.RunLemmas.{legible_of, next_miscounted, next_refused, next_unfitting, next_whole, whole_of}
use Rattle.cob_report_show.proofs.records.read_record.Goals as goal

pub returns-clause-record : goal.returns-clause-record
returns-clause-record g c =
    let size = rw c.in-Ok-Some.field-0-is at c.in-Ok-Some.ensures.size in (
      length_fits c.args.form _ c.in-Ok-Some.count _ size (search rules),
      holds_record c.args.form c.args.layout.now c.counts_of.new.counts _ c.in-Ok-Some.count c.in_default.ensures.stands (rw c.greatest.ensures.value at size) (c.if-not-fits_counts.ensures.must refl),
    )

pub returns-clause-whole : goal.returns-clause-whole
returns-clause-whole g c =
    let size = rw c.in-Ok-Some.field-0-is at c.in-Ok-Some.ensures.size in
    whole_of c.args.form _ c.in-Ok-Some.count _ (rw c.greatest.ensures.value at size) (search rules)

pub returns-clause-legible : goal.returns-clause-legible
returns-clause-legible g c =
    let size = rw c.in-Ok-Some.field-0-is at c.in-Ok-Some.ensures.size in
    legible_of c.args.form c.args.layout.now c.counts_of.new.counts c.next_in_form.new.slot c.in-Ok-Some.count (length_fits c.args.form _ c.in-Ok-Some.count _ size (search rules))
    c.in_default.ensures.stands (c.if-not-fits_counts.ensures.must refl)

pub returns-clause-next : goal.returns-clause-next
returns-clause-next g c =
    next_whole c.args.form c.args.layout.now c.args.left.now c.next_in_form.new.left c.next_in_form.new.slot c.in-Ok-Some.count _ _ (rw (c.in-Ok-Some.field-0-is, c.greatest.ensures.value) at c.in-Ok-Some.ensures.frame)

pub returns-in-Err-clause-next : goal.returns-in-Err-clause-next
returns-in-Err-clause-next g c =
    next_refused c.args.form c.args.layout.now c.args.left.now c.next_in_form.new.left c.next_in_form.new.slot c.in-Err.fault c.of_frame.result _ _ c.of_frame.ensures (rw c.greatest.ensures.value at c.in-Err.ensures.frame)

pub returns-in-Err-counts_of-clause-next : goal.returns-in-Err-counts_of-clause-next
returns-in-Err-counts_of-clause-next g c =
    next_miscounted c.args.form c.args.layout.now c.args.left.now c.next_in_form.new.left c.next_in_form.new.slot c.in-Ok-Some.count c.in-Err-counts_of.fault c.count_reason.result _ _ c.count_reason.ensures.value c.in-Err-counts_of.ensures.err
    (rw (c.in-Ok-Some.field-0-is, c.greatest.ensures.value) at c.in-Ok-Some.ensures.frame)

pub returns-then-not-fits_counts-clause-next : goal.returns-then-not-fits_counts-clause-next
returns-then-not-fits_counts-clause-next g c =
    next_unfitting c.args.form c.args.layout.now c.counts_of.new.counts c.args.left.now c.next_in_form.new.left c.next_in_form.new.slot c.in-Ok-Some.count c.of_frame-then-not-fits_counts.result _ _
    c.of_frame-then-not-fits_counts.ensures c.in_default.ensures.stands (c.if-not-fits_counts.ensures.only refl)
    (rw (c.in-Ok-Some.field-0-is, c.greatest.ensures.value) at c.in-Ok-Some.ensures.frame)
