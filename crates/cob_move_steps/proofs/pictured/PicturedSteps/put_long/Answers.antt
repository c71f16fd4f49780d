use Rattle.std.proofs.Common.{[], ◌∷◌, arith}
use Rattle.cob_move_steps.specs.Pictured.{MovesPicturedLong}
use Rattle.cob_move_steps.specs.Pool.{BetweenItems}
use Rattle.cob_move_steps.specs.declared.any_number_step.AnyNumberStep.{AnyNumberStep}
use Rattle.cob_move_steps.specs.declared.edit_step.EditStep.{EditStep}
use Rattle.cob_move_steps.specs.declared.long_step.LongStep.{LongStep}
use Rattle.cob_move_steps.specs.declared.numerals_step.NumeralsStep.{NumeralsStep}
use Rattle.cob_move_steps.specs.declared.wide_edit_step.WideEditStep.{WideEditStep}
use Rattle.cob_move_steps.proofs.PicturedLemmas.{pictured_kept}
use Rattle.cob_move_steps.proofs.PoolLemmas.{as_before, put_at}
use Rattle.cob_move_steps.proofs.pictured.PicturedSteps.put_long.Goals as goal

pub returns-clause-step : goal.returns-clause-step
returns-clause-step c = λ k occupied moves. record {
  occupied = occupied;
  between = put_at LongStep (λ (step : LongStep). BetweenItems (MovesPicturedLong step) k.sender k.receiver) c.args.self.now.longs.items c.push.new.self.items c.args.step c.len-number.result c.in_ok-push.ensures.items
      (omega (arith, c.len-number.ensures, c.args.self.now.longs.ok.0)) moves;
}

pub returns-clause-kept : goal.returns-clause-kept
returns-clause-kept c =
    pictured_kept c.args.self.now (record { alloc = c.args.self.now.alloc; numbers = c.args.self.now.numbers; edits = c.args.self.now.edits; wide_edits = c.args.self.now.wide_edits; numerals = c.args.self.now.numerals; longs = c.push.new.self }) (as_before AnyNumberStep c.args.self.now.numbers.items) (as_before EditStep c.args.self.now.edits.items) (as_before WideEditStep c.args.self.now.wide_edits.items) (as_before NumeralsStep c.args.self.now.numerals.items) (c.args.step ∷ [], c.in_ok-push.ensures.items)
