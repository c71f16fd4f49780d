use Rattle.cob_report_show.specs.Elements.{named_item, printed_record}
use Rattle.cob_report_show.proofs.TurnLemmas.{element_sends}
use Rattle.cob_report_show.proofs.elements.put_element.Goals as goal

pub returns-clause-lines : goal.returns-clause-lines
returns-clause-lines g c =
    element_sends (printed_record c.args.contents) (named_item c.args.item.now) c.args.reference.now.subscripts.items c.place_of-place.result c.front_of-line.result.items c.field.result.now
    c.args.sent.now c.put_value.new.sent c.put_value.result _ _ c.place_of-place.ensures.at
    (rw (c.as_bytes.ensures.value, c.as_slice.ensures.value) at c.front_of-line.ensures.text) c.field.ensures c.put_value.ensures.lines
