use Rattle.cob_records_parts.proofs.Finding.{found_cut, found_end, found_fault, found_whole, length_most, seen_most}
use Rattle.cob_records_parts.proofs.stream.next_frame.Goals as goal

pub size_behind-requires : goal.size_behind-requires
size_behind-requires g c = length_most c.args.form c.args.greatest c.in-Ok-Some.count (rw c.in-Ok-Some.field-0-is at c.in-Ok-Some.ensures.size) c.requires.high

pub returns-in-Ok-Some-clause-finds : goal.returns-in-Ok-Some-clause-finds
returns-in-Ok-Some-clause-finds g c =
    found_whole c.args.form c.args.greatest c.args.left.now c.next_in_form.new.slot c.in-Ok-Some.count c.size_behind.result c.next_in_form.new.left _
    (g.R.Source.coming c.next_in_form.new.source) c.size_behind.ensures.size (rw c.in-Ok-Some.field-0-is at c.in-Ok-Some.ensures.frame)

pub returns-in-Ok-None-clause-finds : goal.returns-in-Ok-None-clause-finds
returns-in-Ok-None-clause-finds g c =
    found_end c.args.form c.args.greatest c.args.left.now c.next_in_form.new.slot c.next_in_form.new.left _ (g.R.Source.coming c.next_in_form.new.source) (rw c.in-Ok-None.field-0-is at c.in-Ok-None.ensures.frame)

pub returns-in-Err-Truncated-clause-finds : goal.returns-in-Err-Truncated-clause-finds
returns-in-Err-Truncated-clause-finds g c =
    rw c.in-Err-Truncated.field-0-is (found_cut c.args.form c.args.greatest c.args.left.now c.in-Err-Truncated.seen c.next_in_form.new.slot c.next_in_form.new.left _ (g.R.Source.coming c.next_in_form.new.source)
    (rw c.in-Err-Truncated.field-0-is at c.in-Err-Truncated.ensures.frame))

pub returns-in-Err-Truncated-clause-most : goal.returns-in-Err-Truncated-clause-most
returns-in-Err-Truncated-clause-most g c = rw c.in-Err-Truncated.field-0-is (seen_most c.args.form c.args.greatest c.in-Err-Truncated.seen (rw c.in-Err-Truncated.field-0-is at c.in-Err-Truncated.ensures.seen) c.requires.high)

pub returns-in-Err-clause-finds : goal.returns-in-Err-clause-finds
returns-in-Err-clause-finds g c =
    found_fault c.args.form c.args.greatest c.args.left.now c.next_in_form.new.slot c.in-Err.fault c.next_in_form.new.left _ (g.R.Source.coming c.next_in_form.new.source)
    c.in-Err.ensures.frame
