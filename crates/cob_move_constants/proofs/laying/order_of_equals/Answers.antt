use Rattle.std.proofs.Common.{◌∙◌, arith, sym}
use Rattle.cob_move_constants.proofs.WordLemmas.{word_greater, word_less, word_same}
use Rattle.cob_move_constants.proofs.laying.order_of_equals.Goals as goal

pub returns-then-one-two : goal.returns-then-one-two
returns-then-one-two c =
    record {
      order = sym (c.loop-at.invariant.so ∙ word_less 8 c.loop-at.at c.args.text.now c.args.other.now c.eight_from-one.result c.eight_from-two.result (omega arith) c.requires c.type_inv.text c.type_inv.other
          c.eight_from-one.ensures c.eight_from-two.ensures c.if-one-two.true);
    }

pub returns-then-two-one : goal.returns-then-two-one
returns-then-two-one c =
    record {
      order = sym (c.loop-at.invariant.so ∙ word_greater 8 c.loop-at.at c.args.text.now c.args.other.now c.eight_from-one.result c.eight_from-two.result (omega arith) c.requires c.type_inv.text c.type_inv.other
          c.eight_from-one.ensures c.eight_from-two.ensures c.if-two-one.true);
    }

pub loop-at-preserved : goal.loop-at-preserved
loop-at-preserved c = record {
  so = c.loop-at.invariant.so
      ∙ word_same 8 c.loop-at.at c.args.text.now c.args.other.now c.eight_from-one.result c.eight_from-two.result (omega arith) c.requires c.type_inv.text c.type_inv.other
      c.eight_from-one.ensures c.eight_from-two.ensures (omega (arith, c.if-one-two.false, c.if-two-one.false));
  within = omega arith;
}

pub returns : goal.returns
returns c = record { order = c.order_by_fours.ensures ∙ sym c.loop-at.invariant.so }
