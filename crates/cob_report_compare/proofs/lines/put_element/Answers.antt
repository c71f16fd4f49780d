use Rattle.std.proofs.Common.{◌∙◌}
use Rattle.cob_report_show.specs.Elements.{named_item}
use Rattle.cob_report_compare.specs.Differences.{plain_difference}
use Rattle.cob_report_compare.proofs.PrintLemmas.{difference_line, on_ok}
use Rattle.cob_report_compare.proofs.lines.put_element.Goals as goal

pub returns-clause-text : goal.returns-clause-text
returns-clause-text g c =
    on_ok c.put_values.result _ _
    (λ values. difference_line c.args.left.now c.args.right.now (plain_difference c.args.difference.now) (named_item c.args.item.now) c.as_slice-2.result.now c.field.result.now c.field-2.result.now _ _ _ _
    c.requires.item (c.as_slice-2.ensures.value ∙ rw (c.as_bytes.ensures.value, c.as_slice.ensures.value) at c.place_of-place.ensures.text) c.field.ensures c.field-2.ensures c.in_ok-put_text.ensures.text
    c.in_ok-put_text-2.ensures.text values) c.put_values.ensures.text
