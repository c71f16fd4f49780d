use Rattle.cob_report_show.specs.Elements.{named_item}
use Rattle.cob_report_compare.specs.Equal.{printed_of}
use Rattle.cob_report_compare.proofs.AddLemmas.{same_adds}
use Rattle.cob_report_compare.proofs.elements.add_element.Goals as goal

pub returns-else-not-same_value : goal.returns-else-not-same_value
returns-else-not-same_value c = record {
  added = same_adds (printed_of c.args.left) (printed_of c.args.right) (named_item c.args.item.now) c.args.reference.now.subscripts.items c.place_of-left_place.result c.place_of-right_place.result
      c.field.result.now c.field-2.result.now c.args.told.now c.place_of-left_place.ensures.at c.place_of-right_place.ensures.at c.field.ensures c.field-2.ensures (c.same_value.ensures.yes c.if-not-same_value.false);
}
