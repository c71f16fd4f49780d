use Rattle.std.proofs.Common.{[], ◌∷◌, arith}
use Rattle.cob_move_steps.specs.Pool.{BetweenItems, MovesAnyNumber}
use Rattle.cob_move_steps.specs.declared.any_number_step.AnyNumberStep.{AnyNumberStep}
use Rattle.cob_move_steps.specs.declared.edit_step.EditStep.{EditStep}
use Rattle.cob_move_steps.specs.declared.long_step.LongStep.{LongStep}
use Rattle.cob_move_steps.specs.declared.numerals_step.NumeralsStep.{NumeralsStep}
use Rattle.cob_move_steps.specs.declared.step.NumberStep.{NumberStep}
use Rattle.cob_move_steps.specs.declared.text_step.TextStep.{TextStep}
use Rattle.cob_move_steps.specs.declared.wide_edit_step.WideEditStep.{WideEditStep}
use Rattle.cob_move_steps.specs.declared.wide_step.WideStep.{WideStep}
use Rattle.cob_move_steps.proofs.PoolLemmas.{as_before, put_at, steps_kept}
use Rattle.cob_move_steps.proofs.pool.MoveSteps.put_any_number.Goals as goal

pub returns-clause-step : goal.returns-clause-step
returns-clause-step c = λ k occupied moves. record {
  occupied = occupied;
  between = put_at AnyNumberStep (λ (step : AnyNumberStep). BetweenItems (MovesAnyNumber step) k.sender k.receiver) c.args.self.now.any_numbers.items c.push.new.self.items c.args.step c.len-number.result c.in_ok-push.ensures.items
      (omega (arith, c.len-number.ensures, c.args.self.now.any_numbers.ok.0)) moves;
}

pub returns-clause-kept : goal.returns-clause-kept
returns-clause-kept c =
    steps_kept c.args.self.now (record { alloc = c.args.self.now.alloc; numbers = c.args.self.now.numbers; wides = c.args.self.now.wides; any_numbers = c.push.new.self; edits = c.args.self.now.edits; wide_edits = c.args.self.now.wide_edits; numerals = c.args.self.now.numerals; texts = c.args.self.now.texts; longs = c.args.self.now.longs })
    (as_before NumberStep c.args.self.now.numbers.items) (as_before WideStep c.args.self.now.wides.items) (c.args.step ∷ [], c.in_ok-push.ensures.items) (as_before EditStep c.args.self.now.edits.items) (as_before WideEditStep c.args.self.now.wide_edits.items) (as_before NumeralsStep c.args.self.now.numerals.items) (as_before TextStep c.args.self.now.texts.items) (as_before LongStep c.args.self.now.longs.items)
