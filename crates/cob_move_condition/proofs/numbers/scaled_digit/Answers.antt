use Rattle.std.proofs.Common.{sym, arith}
use Rattle.cob_move_condition.proofs.NumberLemmas.{scaled_beyond, scaled_in, scaled_low}
use Rattle.cob_move_condition.proofs.numbers.scaled_digit.Goals as goal

pub returns-then-power-finer : goal.returns-then-power-finer
returns-then-power-finer c = sym (scaled_low c.args.digits.now c.args.finer c.args.power c.if-power-finer.true)

pub returns-then-from_end-digits : goal.returns-then-from_end-digits
returns-then-from_end-digits c = sym (scaled_in c.args.digits.now c.args.finer c.args.power c.requires (omega arith) (omega arith))

pub returns-else-from_end-digits : goal.returns-else-from_end-digits
returns-else-from_end-digits c = sym (scaled_beyond c.args.digits.now c.args.finer c.args.power c.requires (omega arith) (omega arith))
