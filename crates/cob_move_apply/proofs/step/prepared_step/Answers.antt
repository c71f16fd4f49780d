use Rattle.std.proofs.Common.{subst}
use Rattle.cob_move_steps.specs.declared.pool.MoveStep.{MoveStep}
use Rattle.cob_move_data.specs.declared.operands.Side.TheVariants.{In}
use Rattle.cob_move_apply.specs.Steps.{IsPreparedMove}
use Rattle.cob_move_apply.proofs.step.prepared_step.Goals as goal

pub returns-in-Number-clause-stands : goal.returns-in-Number-clause-stands
returns-in-Number-clause-stands c = λ x r given on own is. subst (λ (s : MoveStep). IsPreparedMove In x r on.prepared (record { places = c.args.one.places; step = s }) own) c.in-Number.is is

pub returns-in-Wide-clause-stands : goal.returns-in-Wide-clause-stands
returns-in-Wide-clause-stands c = λ x r given on own is. subst (λ (s : MoveStep). IsPreparedMove In x r on.prepared (record { places = c.args.one.places; step = s }) own) c.in-Wide.is is

pub returns-in-AnyNumber-clause-stands : goal.returns-in-AnyNumber-clause-stands
returns-in-AnyNumber-clause-stands c = λ x r given on own is. subst (λ (s : MoveStep). IsPreparedMove In x r on.prepared (record { places = c.args.one.places; step = s }) own) c.in-AnyNumber.is is

pub returns-in-Edited-clause-stands : goal.returns-in-Edited-clause-stands
returns-in-Edited-clause-stands c = λ x r given on own is. subst (λ (s : MoveStep). IsPreparedMove In x r on.prepared (record { places = c.args.one.places; step = s }) own) c.in-Edited.is is

pub returns-in-Characters-clause-stands : goal.returns-in-Characters-clause-stands
returns-in-Characters-clause-stands c = λ x r given on own is. subst (λ (s : MoveStep). IsPreparedMove In x r on.prepared (record { places = c.args.one.places; step = s }) own) c.in-Characters.is is

pub returns-in-WideEdited-clause-stands : goal.returns-in-WideEdited-clause-stands
returns-in-WideEdited-clause-stands c = λ x r given on own is. is

pub returns-in-Numerals-clause-stands : goal.returns-in-Numerals-clause-stands
returns-in-Numerals-clause-stands c = λ x r given on own is. is

pub returns-in-Text-clause-stands : goal.returns-in-Text-clause-stands
returns-in-Text-clause-stands c = λ x r given on own is. is

pub returns-in-Long-clause-stands : goal.returns-in-Long-clause-stands
returns-in-Long-clause-stands c = λ x r given on own is. is
