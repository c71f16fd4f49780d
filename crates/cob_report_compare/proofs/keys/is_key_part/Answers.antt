use Rattle.std.proofs.Common.{true≢false, refl, sym, ◌∙◌}
use Rattle.cob_report_compare.specs.Keys.{Letters}
use Rattle.cob_report_compare.proofs.KeyLemmas.{is_no_part, is_part}
use Rattle.cob_report_compare.proofs.keys.is_key_part.Goals as goal

pub returns-then-is_number_item : goal.returns-then-is_number_item
returns-then-is_number_item c =
    let number = c.if-is_number_item.ensures.yes in
    record {
      yes = λ is. is_part c.args.item.now c.args.bytes.now c.read_number.result number c.read_number.ensures.found (sym c.is_some.ensures ∙ is);
      no = λ is. is_no_part c.args.item.now c.args.bytes.now c.read_number.result number c.read_number.ensures.only (sym c.is_some.ensures ∙ is);
    }

pub returns-else-is_number_item : goal.returns-else-is_number_item
returns-else-is_number_item c = record {
  yes = λ is. (Letters c.args.bytes.now, (λ number. let true_ = c.if-is_number_item.ensures.must number in absurd (cc), refl));
  no = λ is. absurd (true≢false is);
}
