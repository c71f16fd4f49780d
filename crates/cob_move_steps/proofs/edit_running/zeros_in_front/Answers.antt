use Rattle.std.proofs.Common.{◌∙◌, arith}
use Rattle.cob_move_steps.proofs.TextLemmas.{zeros_all, zeros_few}
use Rattle.cob_move_steps.proofs.edit_running.zeros_in_front.Goals as goal

pub returns-then-zeros-count-clause-value : goal.returns-then-zeros-count-clause-value
returns-then-zeros-count-clause-value c = λ le.
    zeros_few c.zeros_before-zeros.result c.args.count c.args.digits c.zeros_before-zeros.ensures (omega (arith, c.if-zeros-count.true, c.from-count.ensures))

pub returns-else-zeros-count-clause-value : goal.returns-else-zeros-count-clause-value
returns-else-zeros-count-clause-value c = λ le.
    c.from-count.ensures
    ∙ zeros_all c.zeros_before-zeros.result c.args.count c.args.digits c.zeros_before-zeros.ensures (omega (arith, c.if-zeros-count.false, c.from-count.ensures)) le
