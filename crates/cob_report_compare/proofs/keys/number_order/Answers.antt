use Rattle.cob_report_compare.proofs.KeyLemmas.{no_part, numbers_stand}
use Rattle.cob_report_compare.proofs.keys.number_order.Goals as goal

pub returns-in_default : goal.returns-in_default
returns-in_default c = λ one other is also. absurd (no_part c.args.item.now c.args.left.now c.requires.number c.in_default.ensures.only one is)

pub returns-in_default-read_number : goal.returns-in_default-read_number
returns-in_default-read_number c = λ one other is also. absurd (no_part c.args.item.now c.args.right.now c.requires.number c.in_default-read_number.ensures.only other also)

pub returns : goal.returns
returns c =
    numbers_stand c.items_hold_numbers.ensures c.args.item.now c.args.left.now c.args.right.now c.in-Some.one c.in-Some-read_number.other c.digits_order.result c.requires.number
    c.in-Some.ensures.found c.in-Some-read_number.ensures.found c.in-Some.ensures.only c.in-Some-read_number.ensures.only
    (rw (c.negative.ensures, c.as_slice.ensures.value, c.digits.ensures, c.negative-2.ensures, c.as_slice-2.ensures.value, c.digits-2.ensures) at c.digits_order.ensures)
