use Rattle.std.proofs.Common.{◌+◌, ◌<◌, length, refl, arith}
use Rattle.std.specs.declared.cmp.Ordering.TheVariants.{Less, Greater}
use Rattle.cob_move_condition.proofs.NumberLemmas.{cmp_greater, cmp_less}
use Rattle.cob_move_condition.proofs.TextLemmas.{literal_decides, literal_done, literal_step}
use Rattle.cob_move_condition.proofs.texts.literal_order.Goals as goal

pub returns-then-one-other : goal.returns-then-one-other
returns-then-one-other c =
    let some : 0 < length c.loop-left.left.now + length c.loop-left.right.now = c.any_left.ensures.goes c.loop-left-test.true in
    literal_decides c.args.text.now c.args.literal.now c.next_byte-one.result.1.now c.next_character-other.result.1.now c.next_byte-one.result.0 c.next_character-other.result.0 Less
    (literal_step c.args.text.now c.args.literal.now c.loop-left.left.now c.loop-left.right.now c.next_byte-one.result.1.now c.next_character-other.result.1.now c.next_byte-one.result.0
    c.next_character-other.result.0 c.loop-left.invariant some c.next_byte-one.ensures.byte c.next_byte-one.ensures.behind c.next_character-other.ensures.coded)
    (cmp_less c.next_byte-one.result.0 c.next_character-other.result.0 (omega arith)) (λ p. refl)

pub returns-then-other-one : goal.returns-then-other-one
returns-then-other-one c =
    let some : 0 < length c.loop-left.left.now + length c.loop-left.right.now = c.any_left.ensures.goes c.loop-left-test.true in
    literal_decides c.args.text.now c.args.literal.now c.next_byte-one.result.1.now c.next_character-other.result.1.now c.next_byte-one.result.0 c.next_character-other.result.0 Greater
    (literal_step c.args.text.now c.args.literal.now c.loop-left.left.now c.loop-left.right.now c.next_byte-one.result.1.now c.next_character-other.result.1.now c.next_byte-one.result.0
    c.next_character-other.result.0 c.loop-left.invariant some c.next_byte-one.ensures.byte c.next_byte-one.ensures.behind c.next_character-other.ensures.coded)
    (cmp_greater c.next_byte-one.result.0 c.next_character-other.result.0 (omega arith)) (λ p. refl)

pub returns : goal.returns
returns c = literal_done c.args.text.now c.args.literal.now c.loop-left.left.now c.loop-left.right.now c.loop-left.invariant (omega (arith, c.any_left.ensures.ends c.loop-left-test.false)) (omega (arith, c.any_left.ensures.ends c.loop-left-test.false))
