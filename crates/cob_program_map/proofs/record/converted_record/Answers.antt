use Rattle.cob_program_map.proofs.Numbering.{as_record, finds_fewer, finds_next, finds_stopped, finds_unread}
use Rattle.cob_program_map.proofs.record.converted_record.Goals as goal

pub returns-in-Ok-Fewer-clause-finds : goal.returns-in-Ok-Fewer-clause-finds
returns-in-Ok-Fewer-clause-finds g c =
    finds_fewer c.args.conversion.now c.in_form-form.result c.in_length-greatest.result c.args.number c.in-Ok-Fewer.there c.find_record.new.body _ _
    c.in_form-form.ensures.value c.in_length-greatest.ensures.value (rw c.in-Ok-Fewer.field-0-is at c.in-Ok-Fewer.ensures.finds)

pub returns-in-Err-clause-finds : goal.returns-in-Err-clause-finds
returns-in-Err-clause-finds g c =
    finds_unread c.args.conversion.now c.in_form-form.result c.in_length-greatest.result c.args.number c.in-Err.stop c.unread.result c.find_record.new.body _ _
    c.in_form-form.ensures.value c.in_length-greatest.ensures.value c.unread.ensures.number c.unread.ensures.reason (rw c.in-Err.is at c.find_record.ensures.finds)

pub convert_found-requires-clause-record : goal.convert_found-requires-clause-record
convert_found-requires-clause-record g c =
    as_record c.args.conversion.now c.in_form-form.result c.in_length-greatest.result _ c.in_form-form.ensures.value c.in_length-greatest.ensures.value
    (rw c.in-Ok-Record.field-0-is at c.in-Ok-Record.ensures.stands).1

pub returns-in-Ok-clause-shows : goal.returns-in-Ok-clause-shows
returns-in-Ok-clause-shows g c = record {
  within = (rw c.in-Ok-Record.field-0-is at c.in-Ok-Record.ensures.stands).0;
  made = c.in-Ok.ensures.within;
  converted = c.in-Ok.ensures.converts;
}

pub returns-in-Ok-clause-finds : goal.returns-in-Ok-clause-finds
returns-in-Ok-clause-finds g c =
    finds_next c.args.conversion.now c.in_form-form.result c.in_length-greatest.result c.args.number (record { input = c.in-Ok-Record.count; output = c.in-Ok.made })
    c.find_record.new.body _ _ c.in_form-form.ensures.value c.in_length-greatest.ensures.value (rw c.in-Ok-Record.field-0-is at c.in-Ok-Record.ensures.finds)

pub returns-in-Err-convert_found-clause-finds : goal.returns-in-Err-convert_found-clause-finds
returns-in-Err-convert_found-clause-finds g c =
    finds_stopped c.args.conversion.now c.in_form-form.result c.in_length-greatest.result c.args.number c.in-Ok-Record.count c.in-Err-convert_found.fault
    c.find_record.new.body _ _ c.in_form-form.ensures.value c.in_length-greatest.ensures.value
    (as_record c.args.conversion.now c.in_form-form.result c.in_length-greatest.result _ c.in_form-form.ensures.value c.in_length-greatest.ensures.value
    (rw c.in-Ok-Record.field-0-is at c.in-Ok-Record.ensures.stands).1)
    c.in-Err-convert_found.ensures.stops (rw c.in-Ok-Record.field-0-is at c.in-Ok-Record.ensures.finds)
