use Rattle.std.proofs.Common.{subst, sym, map}
use Rattle.std.proofs.lemmas.Result.{err_from_is_err_and}
use Rattle.cob_report_show.specs.Elements.{ItemsStand, named_item, printed_record}
use Rattle.cob_report_show.proofs.ElementLemmas.{items_stand}
use Rattle.cob_report_show.proofs.ItemLemmas.{cut_number, number_and_items}
use Rattle.cob_report_show.proofs.records.put_lines.Goals as goal

pub put_items-requires : goal.put_items-requires
put_items-requires g c = record {
  laid = c.requires.record.0;
  stand = subst (λ xs. ItemsStand (printed_record c.args.contents) xs) (sym c.requires.items)
      (items_stand c.records_are_sound.ensures c.places_end_in_length.ensures (printed_record c.args.contents) c.greatest.ensures.record c.requires.record.0 c.requires.record.1);
}

pub returns-in_err-put_record_number-clause-lines : goal.returns-in_err-put_record_number-clause-lines
returns-in_err-put_record_number-clause-lines g c =
    let p = err_from_is_err_and c.from_residual.result c.from_residual.ensures.1 in
    rw p.1 (cut_number (printed_record c.args.contents) c.args.number c.args.sent.now c.put_record_number.new.sent c.in_err-put_record_number.field-0.0 _ _ c.in_err-put_record_number.ensures.lines)

pub returns-clause-lines : goal.returns-clause-lines
returns-clause-lines g c =
    number_and_items (printed_record c.args.contents) (map named_item c.args.items.now) c.args.number c.args.sent.now c.put_record_number.new.sent c.put_items.new.sent c.put_items.result _ _ _
    c.requires.items c.in_ok-put_record_number.ensures.lines c.put_items.ensures.lines
