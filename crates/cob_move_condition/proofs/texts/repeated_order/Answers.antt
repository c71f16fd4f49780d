use Rattle.std.proofs.Common.{◌≡◌, ◌<◌, ◌∙◌, length, get_or, replicate, refl, sym, arith}
use Rattle.std.specs.declared.cmp.Ordering.TheVariants.{Less, Equal, Greater}
use Rattle.std.proofs.lemmas.Bool.Decides.{nat_tests}
use Rattle.std.proofs.lemmas.List.{nil_from_length}
use Rattle.cob_move_receive.proofs.CharacterLemmas.{nothing_repeated}
use Rattle.cob_move_condition.proofs.NumberLemmas.{cmp_equal, cmp_greater, cmp_less}
use Rattle.cob_move_condition.proofs.TextLemmas.{bytes_in, turn_decides, turn_done, turning, turning_is}
use Rattle.cob_move_condition.proofs.texts.repeated_order.Goals as goal

pub returns-then-is_empty : goal.returns-then-is_empty
returns-then-is_empty c =
    let none : length c.args.literal.now ≡ 0 = grind (arith, nat_tests) in
    (replicate (length c.args.text.now) 0x40, rw (nil_from_length c.args.literal.now none) (nothing_repeated (length c.args.text.now)), c.fill_order.ensures)

pub returns-then-byte-other : goal.returns-then-byte-other
returns-then-byte-other c =
    let some : 0 < length c.args.literal.now = grind (arith, nat_tests) in (
      turning (bytes_in c.args.literal.now) 0 (length c.args.text.now),
      turning_is c.args.literal.now (length c.args.text.now) some,
      sym (turn_decides c.args.text.now c.args.literal.now c.loop-at.at (get_or c.args.text.now c.loop-at.at 0) c.byte_of-other.result Less (omega arith) some c.loop-at.invariant refl
          c.byte_of-other.ensures (cmp_less (get_or c.args.text.now c.loop-at.at 0) c.byte_of-other.result (omega arith))),
    )

pub returns-then-other-byte : goal.returns-then-other-byte
returns-then-other-byte c =
    let some : 0 < length c.args.literal.now = grind (arith, nat_tests) in (
      turning (bytes_in c.args.literal.now) 0 (length c.args.text.now),
      turning_is c.args.literal.now (length c.args.text.now) some,
      sym (turn_decides c.args.text.now c.args.literal.now c.loop-at.at (get_or c.args.text.now c.loop-at.at 0) c.byte_of-other.result Greater (omega arith) some c.loop-at.invariant refl
          c.byte_of-other.ensures (cmp_greater (get_or c.args.text.now c.loop-at.at 0) c.byte_of-other.result (omega arith))),
    )

pub loop-at-preserved : goal.loop-at-preserved
loop-at-preserved c =
    let some : 0 < length c.args.literal.now = grind (arith, nat_tests) in
    turn_decides c.args.text.now c.args.literal.now c.loop-at.at (get_or c.args.text.now c.loop-at.at 0) c.byte_of-other.result Equal (omega arith) some c.loop-at.invariant refl
    c.byte_of-other.ensures (cmp_equal (get_or c.args.text.now c.loop-at.at 0) c.byte_of-other.result (omega arith))

pub returns : goal.returns
returns c =
    let some : 0 < length c.args.literal.now = grind (arith, nat_tests) in (
      turning (bytes_in c.args.literal.now) 0 (length c.args.text.now),
      turning_is c.args.literal.now (length c.args.text.now) some,
      sym (c.loop-at.invariant ∙ turn_done c.args.text.now (bytes_in c.args.literal.now) c.loop-at.at (omega arith)),
    )
