use Rattle.std.proofs.Common.{◌∙◌, ◌*◌, ◌^◌, refl, sym, arith}
use Rattle.cob_decimal.specs.Decimal.{number_of}
use Rattle.cob_move_condition.proofs.NumberLemmas.{greater_at, less_at, none_above, same_at}
use Rattle.cob_move_condition.proofs.numbers.magnitude_order.Goals as goal

pub loop-step-init : goal.loop-step-init
loop-step-init c =
    none_above c.args.first.now c.args.finer _ c.requires.first (omega arith) ∙ sym (none_above c.args.second.now c.args.second_finer _ c.requires.second (omega arith))

pub returns-then-x-y : goal.returns-then-x-y
returns-then-x-y c =
    less_at (number_of c.args.first.now * 10 ^ c.args.finer) (number_of c.args.second.now * 10 ^ c.args.second_finer) c.max-size.result c.loop-step.step _ _ _
    (omega arith) refl c.loop-step.invariant c.scaled_digit-x.ensures c.scaled_digit-y.ensures (omega arith)

pub returns-then-y-x : goal.returns-then-y-x
returns-then-y-x c =
    greater_at (number_of c.args.first.now * 10 ^ c.args.finer) (number_of c.args.second.now * 10 ^ c.args.second_finer) c.max-size.result c.loop-step.step _ _ _
    (omega arith) refl c.loop-step.invariant c.scaled_digit-x.ensures c.scaled_digit-y.ensures (omega arith)

pub loop-step-preserved : goal.loop-step-preserved
loop-step-preserved c =
    same_at (number_of c.args.first.now * 10 ^ c.args.finer) (number_of c.args.second.now * 10 ^ c.args.second_finer) c.max-size.result c.loop-step.step _ _ _
    (omega arith) refl c.loop-step.invariant c.scaled_digit-x.ensures c.scaled_digit-y.ensures (omega arith) (omega arith)
