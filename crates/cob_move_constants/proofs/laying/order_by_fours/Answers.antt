use Rattle.std.proofs.Common.{◌∙◌, arith, sym}
use Rattle.cob_move_constants.proofs.WordLemmas.{word_greater, word_less, word_same}
use Rattle.cob_move_constants.proofs.laying.order_by_fours.Goals as goal

pub returns-then-one-two : goal.returns-then-one-two
returns-then-one-two c =
    sym (word_less 4 c.args.start c.args.text.now c.args.other.now c.four_from-one.result c.four_from-two.result (omega arith) c.requires.long c.type_inv.text c.type_inv.other
    c.four_from-one.ensures c.four_from-two.ensures c.if-one-two.true)

pub returns-then-two-one : goal.returns-then-two-one
returns-then-two-one c =
    sym (word_greater 4 c.args.start c.args.text.now c.args.other.now c.four_from-one.result c.four_from-two.result (omega arith) c.requires.long c.type_inv.text c.type_inv.other
    c.four_from-one.ensures c.four_from-two.ensures c.if-two-one.true)

pub returns : goal.returns
returns c =
    c.order_from-2.ensures
    ∙ sym (word_same 4 c.args.start c.args.text.now c.args.other.now c.four_from-one.result c.four_from-two.result (omega arith) c.requires.long c.type_inv.text c.type_inv.other
    c.four_from-one.ensures c.four_from-two.ensures (omega (arith, c.if-one-two.false, c.if-two-one.false)))
