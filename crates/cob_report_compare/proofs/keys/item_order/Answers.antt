use Rattle.cob_report_compare.proofs.KeyLemmas.{letters_stand}
use Rattle.cob_report_compare.proofs.keys.item_order.Goals as goal

pub returns-else-is_number_item : goal.returns-else-is_number_item
returns-else-is_number_item c =
    letters_stand c.args.item.now c.args.left.now c.args.right.now c.cmp.result (λ number. let true_ = c.if-is_number_item.ensures.must number in absurd (cc)) c.cmp.ensures
