use Rattle.std.proofs.Common.{Less, Equal, Greater}
use Rattle.cob_report_compare.proofs.KeyLemmas.{first_stand, none_stand_of}
use Rattle.cob_report_compare.proofs.keys.+order_of_keys.Goals as goal

pub returns-in_default : goal.returns-in_default
returns-in_default n c = none_stand_of c.args.keys.now c.args.left.now c.args.right.now c.in_default.ensures.cases

pub returns-in-Equal : goal.returns-in-Equal
returns-in-Equal n c =
    first_stand c.args.keys.now c.in-Some.key.now c.in-Some.further.now c.args.left.now c.args.right.now _ _ _ _ Equal c.order_of_keys.result c.in-Some.ensures.cases.0
    (rw c.size-size.ensures at c.split_at.ensures.front) (rw c.size-size.ensures at c.split_at-2.ensures.front) (rw c.size-size.ensures at c.split_at.ensures.back) (rw c.size-size.ensures at c.split_at-2.ensures.back)
    (rw c.in-Equal.is at c.item_order.ensures) (λ alike. c.order_of_keys.ensures)

pub returns-in-Less : goal.returns-in-Less
returns-in-Less n c =
    first_stand c.args.keys.now c.in-Some.key.now c.in-Some.further.now c.args.left.now c.args.right.now _ _ _ _ Less Equal c.in-Some.ensures.cases.0
    (rw c.size-size.ensures at c.split_at.ensures.front) (rw c.size-size.ensures at c.split_at-2.ensures.front) (rw c.size-size.ensures at c.split_at.ensures.back) (rw c.size-size.ensures at c.split_at-2.ensures.back)
    (rw c.in-Less.is at c.item_order.ensures) (λ alike. absurd (cc))

pub returns-in-Greater : goal.returns-in-Greater
returns-in-Greater n c =
    first_stand c.args.keys.now c.in-Some.key.now c.in-Some.further.now c.args.left.now c.args.right.now _ _ _ _ Greater Equal c.in-Some.ensures.cases.0
    (rw c.size-size.ensures at c.split_at.ensures.front) (rw c.size-size.ensures at c.split_at-2.ensures.front) (rw c.size-size.ensures at c.split_at.ensures.back) (rw c.size-size.ensures at c.split_at-2.ensures.back)
    (rw c.in-Greater.is at c.item_order.ensures) (λ alike. absurd (cc))
