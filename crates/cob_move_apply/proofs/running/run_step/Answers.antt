use Rattle.std.proofs.Common.{ℕ, Ok, subst}
use Rattle.cob_move_steps.specs.declared.pool.MoveStep.TheVariants.{Characters}
use Rattle.cob_move_data.specs.declared.operands.Side.TheVariants.{In}
use Rattle.cob_move_apply.specs.Applied.{done}
use Rattle.cob_move_steps.specs.declared.pool.MoveStep.{MoveStep}
use Rattle.cob_move_apply.specs.Steps.{IsPreparedMove, IsStep, Support, support_of}
use Rattle.cob_move_apply.specs.Surveyed.{records}
use Rattle.cob_move_apply.specs.declared.step.PreparedMove.{PreparedMove}
use Rattle.cob_move_apply.specs.declared.step.Step.{Step}
use Rattle.cob_move_apply.proofs.StepLemmas.{constant_within, copy_reads, made_constant, made_copy, made_pictured, made_prepared, prepared_reads, prepared_within, space_copy, the_constant, the_pictured, the_prepared}
use Rattle.cob_move_apply.proofs.SpendingLemmas.{constant_spends, copy_spends, pictured_step_has_spent, prepared_spends}
use Rattle.cob_move_apply.proofs.running.run_step.Goals as goal

pub run_single-requires-clause-step : goal.run_single-requires-clause-step
run_single-requires-clause-step g c =
    let x = c.args.layouts.now.reading in
    let r = records c.args.layouts.now in
    let on : Support = support_of c.args.plan.now in
    let (given, own, at) = c.requires.step in
    let is = subst (λ (s : Step). IsStep x r given on s own) c.in-Number.is at in
    (own, is)

pub returns-in-Number-clause-applied : goal.returns-in-Number-clause-applied
returns-in-Number-clause-applied g c = λ yes given own is.
    let x = c.args.layouts.now.reading in
    let r = records c.args.layouts.now in
    let on : Support = support_of c.args.plan.now in
    let this = subst (λ (s : Step). IsStep x r given on s own) c.in-Number.is is in
    c.run_single.ensures.applied yes own this

pub returns-in-Number-clause-spends : goal.returns-in-Number-clause-spends
returns-in-Number-clause-spends g c = λ yes given own is.
    let x = c.args.layouts.now.reading in
    let r = records c.args.layouts.now in
    let on : Support = support_of c.args.plan.now in
    let this = subst (λ (s : Step). IsStep x r given on s own) c.in-Number.is is in
    c.run_single.ensures.spends yes own this

pub run_single-requires-in-Wide-clause-step : goal.run_single-requires-in-Wide-clause-step
run_single-requires-in-Wide-clause-step g c =
    let x = c.args.layouts.now.reading in
    let r = records c.args.layouts.now in
    let on : Support = support_of c.args.plan.now in
    let (given, own, at) = c.requires.step in
    let is = subst (λ (s : Step). IsStep x r given on s own) c.in-Wide.is at in
    (own, is)

pub returns-in-Wide-clause-applied : goal.returns-in-Wide-clause-applied
returns-in-Wide-clause-applied g c = λ yes given own is.
    let x = c.args.layouts.now.reading in
    let r = records c.args.layouts.now in
    let on : Support = support_of c.args.plan.now in
    let this = subst (λ (s : Step). IsStep x r given on s own) c.in-Wide.is is in
    c.run_single-in-Wide.ensures.applied yes own this

pub returns-in-Wide-clause-spends : goal.returns-in-Wide-clause-spends
returns-in-Wide-clause-spends g c = λ yes given own is.
    let x = c.args.layouts.now.reading in
    let r = records c.args.layouts.now in
    let on : Support = support_of c.args.plan.now in
    let this = subst (λ (s : Step). IsStep x r given on s own) c.in-Wide.is is in
    c.run_single-in-Wide.ensures.spends yes own this

pub run_single-requires-in-AnyNumber-clause-step : goal.run_single-requires-in-AnyNumber-clause-step
run_single-requires-in-AnyNumber-clause-step g c =
    let x = c.args.layouts.now.reading in
    let r = records c.args.layouts.now in
    let on : Support = support_of c.args.plan.now in
    let (given, own, at) = c.requires.step in
    let is = subst (λ (s : Step). IsStep x r given on s own) c.in-AnyNumber.is at in
    (own, is)

pub returns-in-AnyNumber-clause-applied : goal.returns-in-AnyNumber-clause-applied
returns-in-AnyNumber-clause-applied g c = λ yes given own is.
    let x = c.args.layouts.now.reading in
    let r = records c.args.layouts.now in
    let on : Support = support_of c.args.plan.now in
    let this = subst (λ (s : Step). IsStep x r given on s own) c.in-AnyNumber.is is in
    c.run_single-in-AnyNumber.ensures.applied yes own this

pub returns-in-AnyNumber-clause-spends : goal.returns-in-AnyNumber-clause-spends
returns-in-AnyNumber-clause-spends g c = λ yes given own is.
    let x = c.args.layouts.now.reading in
    let r = records c.args.layouts.now in
    let on : Support = support_of c.args.plan.now in
    let this = subst (λ (s : Step). IsStep x r given on s own) c.in-AnyNumber.is is in
    c.run_single-in-AnyNumber.ensures.spends yes own this

pub run_single-requires-in-Edited-clause-step : goal.run_single-requires-in-Edited-clause-step
run_single-requires-in-Edited-clause-step g c =
    let x = c.args.layouts.now.reading in
    let r = records c.args.layouts.now in
    let on : Support = support_of c.args.plan.now in
    let (given, own, at) = c.requires.step in
    let is = subst (λ (s : Step). IsStep x r given on s own) c.in-Edited.is at in
    (own, is)

pub returns-in-Edited-clause-applied : goal.returns-in-Edited-clause-applied
returns-in-Edited-clause-applied g c = λ yes given own is.
    let x = c.args.layouts.now.reading in
    let r = records c.args.layouts.now in
    let on : Support = support_of c.args.plan.now in
    let this = subst (λ (s : Step). IsStep x r given on s own) c.in-Edited.is is in
    c.run_single-in-Edited.ensures.applied yes own this

pub returns-in-Edited-clause-spends : goal.returns-in-Edited-clause-spends
returns-in-Edited-clause-spends g c = λ yes given own is.
    let x = c.args.layouts.now.reading in
    let r = records c.args.layouts.now in
    let on : Support = support_of c.args.plan.now in
    let this = subst (λ (s : Step). IsStep x r given on s own) c.in-Edited.is is in
    c.run_single-in-Edited.ensures.spends yes own this

pub run_single-requires-in-Long-clause-step : goal.run_single-requires-in-Long-clause-step
run_single-requires-in-Long-clause-step g c =
    let x = c.args.layouts.now.reading in
    let r = records c.args.layouts.now in
    let on : Support = support_of c.args.plan.now in
    let (given, own, at) = c.requires.step in
    let is = subst (λ (s : Step). IsStep x r given on s own) c.in-Prepared.is at in
    (own, subst (λ (s : MoveStep). IsPreparedMove In x r on.prepared (record { places = c.in-Prepared.one.places; step = s }) own) c.in-Long.is is)

pub returns-in-Long-clause-applied : goal.returns-in-Long-clause-applied
returns-in-Long-clause-applied g c = λ yes given own is.
    let x = c.args.layouts.now.reading in
    let r = records c.args.layouts.now in
    let on : Support = support_of c.args.plan.now in
    let this = subst (λ (s : Step). IsStep x r given on s own) c.in-Prepared.is is in
    c.run_single-in-Long.ensures.applied yes own (subst (λ (s : MoveStep). IsPreparedMove In x r on.prepared (record { places = c.in-Prepared.one.places; step = s }) own) c.in-Long.is this)

pub returns-in-Long-clause-spends : goal.returns-in-Long-clause-spends
returns-in-Long-clause-spends g c = λ yes given own is.
    let x = c.args.layouts.now.reading in
    let r = records c.args.layouts.now in
    let on : Support = support_of c.args.plan.now in
    let this = subst (λ (s : Step). IsStep x r given on s own) c.in-Prepared.is is in
    c.run_single-in-Long.ensures.spends yes own (subst (λ (s : MoveStep). IsPreparedMove In x r on.prepared (record { places = c.in-Prepared.one.places; step = s }) own) c.in-Long.is this)

pub run_one-requires-clause-step : goal.run_one-requires-clause-step
run_one-requires-clause-step g c =
    let x = c.args.layouts.now.reading in
    let r = records c.args.layouts.now in
    let on : Support = support_of c.args.plan.now in
    let (given, own, at) = c.requires.step in
    let is = subst (λ (s : Step). IsStep x r given on s own) c.in-Prepared.is at in
    (own, is)

pub returns-in_default-clause-applied : goal.returns-in_default-clause-applied
returns-in_default-clause-applied g c = λ yes given own is.
    let x = c.args.layouts.now.reading in
    let r = records c.args.layouts.now in
    let on : Support = support_of c.args.plan.now in
    let this = subst (λ (s : Step). IsStep x r given on s own) c.in-Prepared.is is in
    c.run_one.ensures.applied yes own this

pub returns-in_default-clause-spends : goal.returns-in_default-clause-spends
returns-in_default-clause-spends g c = λ yes given own is.
    let x = c.args.layouts.now.reading in
    let r = records c.args.layouts.now in
    let on : Support = support_of c.args.plan.now in
    let this = subst (λ (s : Step). IsStep x r given on s own) c.in-Prepared.is is in
    c.run_one.ensures.spends yes own this

pub make_characters-requires-clause-step : goal.make_characters-requires-clause-step
make_characters-requires-clause-step g c =
    let x = c.args.layouts.now.reading in
    let r = records c.args.layouts.now in
    let on : Support = support_of c.args.plan.now in
    let (given, own, at) = c.requires.step in
    let is = subst (λ (s : Step). IsStep x r given on s own) c.in-Characters.is at in
    let p : PreparedMove = record { places = c.in-Characters.one.places; step = Characters c.in-Characters.one.step } in
    the_prepared In x r on.prepared p own is

pub make_characters-requires-clause-reads : goal.make_characters-requires-clause-reads
make_characters-requires-clause-reads g c =
    let x = c.args.layouts.now.reading in
    let r = records c.args.layouts.now in
    let on : Support = support_of c.args.plan.now in
    let (given, own, at) = c.requires.step in
    let is = subst (λ (s : Step). IsStep x r given on s own) c.in-Characters.is at in
    let p : PreparedMove = record { places = c.in-Characters.one.places; step = Characters c.in-Characters.one.step } in
    prepared_reads In x r on.prepared p own c.args.input.now c.args.output.now is c.requires.input c.requires.output

pub make_characters-requires-clause-writes : goal.make_characters-requires-clause-writes
make_characters-requires-clause-writes g c =
    let x = c.args.layouts.now.reading in
    let r = records c.args.layouts.now in
    let on : Support = support_of c.args.plan.now in
    let (given, own, at) = c.requires.step in
    let is = subst (λ (s : Step). IsStep x r given on s own) c.in-Characters.is at in
    let p : PreparedMove = record { places = c.in-Characters.one.places; step = Characters c.in-Characters.one.step } in
    prepared_within In x r on.prepared p own is

pub returns-in-Characters-clause-applied : goal.returns-in-Characters-clause-applied
returns-in-Characters-clause-applied g c = λ yes given own is.
    let x = c.args.layouts.now.reading in
    let r = records c.args.layouts.now in
    let on : Support = support_of c.args.plan.now in
    let this = subst (λ (s : Step). IsStep x r given on s own) c.in-Characters.is is in
    let p : PreparedMove = record { places = c.in-Characters.one.places; step = Characters c.in-Characters.one.step } in
    made_prepared In x r on.prepared p own c.args.input.now c.args.output.now (done c.make_characters.new.output) c.requires.keeps c.requires.input c.requires.output c.make_characters.ensures.made this

pub returns-in-Characters-clause-spends : goal.returns-in-Characters-clause-spends
returns-in-Characters-clause-spends g c = λ yes given own is.
    let x = c.args.layouts.now.reading in
    let r = records c.args.layouts.now in
    let on : Support = support_of c.args.plan.now in
    let this = subst (λ (s : Step). IsStep x r given on s own) c.in-Characters.is is in
    let p : PreparedMove = record { places = c.in-Characters.one.places; step = Characters c.in-Characters.one.step } in
    prepared_spends {A = ℕ} In x r on.prepared p own c.args.input.now c.args.output.now (Ok 0) c.make_characters.new.output _ _ c.requires.keeps c.make_characters.ensures.made c.make_characters.ensures.spends this

pub run_part-requires-clause-part : goal.run_part-requires-clause-part
run_part-requires-clause-part g c =
    let x = c.args.layouts.now.reading in
    let r = records c.args.layouts.now in
    let on : Support = support_of c.args.plan.now in
    let (given, own, at) = c.requires.step in
    let is = subst (λ (s : Step). IsStep x r given on s own) c.in-Pictured.is at in
    let (m, part) = the_pictured x r given on c.in-Pictured.one c.in-Pictured.field-1 own is in
    (given, c.in-Pictured.field-1, m, part)

pub returns-in-Pictured-clause-applied : goal.returns-in-Pictured-clause-applied
returns-in-Pictured-clause-applied g c = λ yes given own is.
    let x = c.args.layouts.now.reading in
    let r = records c.args.layouts.now in
    let on : Support = support_of c.args.plan.now in
    let this = subst (λ (s : Step). IsStep x r given on s own) c.in-Pictured.is is in
    made_pictured x r given on c.in-Pictured.one c.in-Pictured.field-1 own c.args.input.now c.args.output.now (done c.run_part.new.output) (c.run_part.ensures.moved yes given c.in-Pictured.field-1) this

pub returns-in-Pictured-clause-spends : goal.returns-in-Pictured-clause-spends
returns-in-Pictured-clause-spends g c = λ yes given own is.
    let x = c.args.layouts.now.reading in
    let r = records c.args.layouts.now in
    let on : Support = support_of c.args.plan.now in
    let this = subst (λ (s : Step). IsStep x r given on s own) c.in-Pictured.is is in
    pictured_step_has_spent x r given on c.in-Pictured.one c.in-Pictured.field-1 own c.args.input.now c.args.output.now c.run_part.new.output _ _ (c.run_part.ensures.spends yes given c.in-Pictured.field-1) this

pub make_constant-requires-clause-step : goal.make_constant-requires-clause-step
make_constant-requires-clause-step g c =
    let x = c.args.layouts.now.reading in
    let r = records c.args.layouts.now in
    let on : Support = support_of c.args.plan.now in
    let (given, own, at) = c.requires.step in
    let is = subst (λ (s : Step). IsStep x r given on s own) c.in-Constant.is at in
    the_constant x r given on c.in-Constant.one own is

pub make_constant-requires-clause-writes : goal.make_constant-requires-clause-writes
make_constant-requires-clause-writes g c =
    let x = c.args.layouts.now.reading in
    let r = records c.args.layouts.now in
    let on : Support = support_of c.args.plan.now in
    let (given, own, at) = c.requires.step in
    let is = subst (λ (s : Step). IsStep x r given on s own) c.in-Constant.is at in
    constant_within x r given on c.in-Constant.one own is

pub returns-in-Constant-clause-applied : goal.returns-in-Constant-clause-applied
returns-in-Constant-clause-applied g c = λ yes given own is.
    let x = c.args.layouts.now.reading in
    let r = records c.args.layouts.now in
    let on : Support = support_of c.args.plan.now in
    let this = subst (λ (s : Step). IsStep x r given on s own) c.in-Constant.is is in
    made_constant x r given on c.in-Constant.one own c.args.input.now c.args.output.now c.make_constant.new.output c.make_constant.ensures.made this

pub returns-in-Constant-clause-spends : goal.returns-in-Constant-clause-spends
returns-in-Constant-clause-spends g c = λ yes given own is.
    let x = c.args.layouts.now.reading in
    let r = records c.args.layouts.now in
    let on : Support = support_of c.args.plan.now in
    let this = subst (λ (s : Step). IsStep x r given on s own) c.in-Constant.is is in
    constant_spends x r given on c.in-Constant.one own c.args.input.now c.args.output.now c.make_constant.new.output _ _ c.make_constant.ensures.made c.make_constant.ensures.spends this

pub copy_across-requires-clause-reads : goal.copy_across-requires-clause-reads
copy_across-requires-clause-reads g c =
    let x = c.args.layouts.now.reading in
    let r = records c.args.layouts.now in
    let on : Support = support_of c.args.plan.now in
    let (given, own, at) = c.requires.step in
    let is = subst (λ (s : Step). IsStep x r given on s own) c.in-Copy.is at in
    copy_reads x r given on c.in-Copy.places own c.args.input.now is c.requires.input

pub returns-in-Copy-clause-applied : goal.returns-in-Copy-clause-applied
returns-in-Copy-clause-applied g c = λ yes given own is.
    let x = c.args.layouts.now.reading in
    let r = records c.args.layouts.now in
    let on : Support = support_of c.args.plan.now in
    let this = subst (λ (s : Step). IsStep x r given on s own) c.in-Copy.is is in
    made_copy x r given on c.in-Copy.places own c.args.input.now c.args.output.now c.copy_across.new.output c.requires.input c.requires.output c.copy_across.ensures this

pub returns-in-Copy-clause-space : goal.returns-in-Copy-clause-space
returns-in-Copy-clause-space g c =
    let x = c.args.layouts.now.reading in
    let r = records c.args.layouts.now in
    let on : Support = support_of c.args.plan.now in
    let (given, own, at) = c.requires.step in
    let is = subst (λ (s : Step). IsStep x r given on s own) c.in-Copy.is at in
    space_copy x r given on c.in-Copy.places own c.args.input.now c.args.output.now c.copy_across.new.output c.args.space.now c.requires.input c.requires.output c.copy_across.ensures is c.requires.space

pub returns-in-Copy-clause-spends : goal.returns-in-Copy-clause-spends
returns-in-Copy-clause-spends g c = λ yes given own is.
    let x = c.args.layouts.now.reading in
    let r = records c.args.layouts.now in
    let on : Support = support_of c.args.plan.now in
    let this = subst (λ (s : Step). IsStep x r given on s own) c.in-Copy.is is in
    copy_spends r own c.args.input.now c.args.output.now c.copy_across.new.output c.args.space.now.output
    (made_copy x r given on c.in-Copy.places own c.args.input.now c.args.output.now c.copy_across.new.output c.requires.input c.requires.output c.copy_across.ensures this)

pub run_onwards-requires-clause-step : goal.run_onwards-requires-clause-step
run_onwards-requires-clause-step g c =
    let x = c.args.layouts.now.reading in
    let r = records c.args.layouts.now in
    let on : Support = support_of c.args.plan.now in
    let (given, own, at) = c.requires.step in
    let is = subst (λ (s : Step). IsStep x r given on s own) c.in-WithinNumber.is at in
    (own, is.0)

pub run_onwards-requires-clause-before : goal.run_onwards-requires-clause-before
run_onwards-requires-clause-before g c =
    let x = c.args.layouts.now.reading in
    let r = records c.args.layouts.now in
    let on : Support = support_of c.args.plan.now in
    let (given, own, at) = c.requires.step in
    let is = subst (λ (s : Step). IsStep x r given on s own) c.in-WithinNumber.is at in
    is.1

pub returns-in-WithinNumber-clause-applied : goal.returns-in-WithinNumber-clause-applied
returns-in-WithinNumber-clause-applied g c = λ yes given own is.
    let x = c.args.layouts.now.reading in
    let r = records c.args.layouts.now in
    let on : Support = support_of c.args.plan.now in
    let this = subst (λ (s : Step). IsStep x r given on s own) c.in-WithinNumber.is is in
    c.run_onwards.ensures.applied yes own this.0

pub returns-in-WithinNumber-clause-spends : goal.returns-in-WithinNumber-clause-spends
returns-in-WithinNumber-clause-spends g c = λ yes given own is.
    let x = c.args.layouts.now.reading in
    let r = records c.args.layouts.now in
    let on : Support = support_of c.args.plan.now in
    let this = subst (λ (s : Step). IsStep x r given on s own) c.in-WithinNumber.is is in
    c.run_onwards.ensures.spends yes own this.0

pub run_onwards-requires-in-WithinEdited-clause-step : goal.run_onwards-requires-in-WithinEdited-clause-step
run_onwards-requires-in-WithinEdited-clause-step g c =
    let x = c.args.layouts.now.reading in
    let r = records c.args.layouts.now in
    let on : Support = support_of c.args.plan.now in
    let (given, own, at) = c.requires.step in
    let is = subst (λ (s : Step). IsStep x r given on s own) c.in-WithinEdited.is at in
    (own, is.0)

pub run_onwards-requires-in-WithinEdited-clause-before : goal.run_onwards-requires-in-WithinEdited-clause-before
run_onwards-requires-in-WithinEdited-clause-before g c =
    let x = c.args.layouts.now.reading in
    let r = records c.args.layouts.now in
    let on : Support = support_of c.args.plan.now in
    let (given, own, at) = c.requires.step in
    let is = subst (λ (s : Step). IsStep x r given on s own) c.in-WithinEdited.is at in
    is.1

pub returns-in-WithinEdited-clause-applied : goal.returns-in-WithinEdited-clause-applied
returns-in-WithinEdited-clause-applied g c = λ yes given own is.
    let x = c.args.layouts.now.reading in
    let r = records c.args.layouts.now in
    let on : Support = support_of c.args.plan.now in
    let this = subst (λ (s : Step). IsStep x r given on s own) c.in-WithinEdited.is is in
    c.run_onwards-in-WithinEdited.ensures.applied yes own this.0

pub returns-in-WithinEdited-clause-spends : goal.returns-in-WithinEdited-clause-spends
returns-in-WithinEdited-clause-spends g c = λ yes given own is.
    let x = c.args.layouts.now.reading in
    let r = records c.args.layouts.now in
    let on : Support = support_of c.args.plan.now in
    let this = subst (λ (s : Step). IsStep x r given on s own) c.in-WithinEdited.is is in
    c.run_onwards-in-WithinEdited.ensures.spends yes own this.0

pub run_within-requires-clause-step : goal.run_within-requires-clause-step
run_within-requires-clause-step g c =
    let x = c.args.layouts.now.reading in
    let r = records c.args.layouts.now in
    let on : Support = support_of c.args.plan.now in
    let (given, own, at) = c.requires.step in
    let is = subst (λ (s : Step). IsStep x r given on s own) c.in-Within.is at in
    (own, is)

pub returns-in-Within-clause-applied : goal.returns-in-Within-clause-applied
returns-in-Within-clause-applied g c = λ yes given own is.
    let x = c.args.layouts.now.reading in
    let r = records c.args.layouts.now in
    let on : Support = support_of c.args.plan.now in
    let this = subst (λ (s : Step). IsStep x r given on s own) c.in-Within.is is in
    c.run_within.ensures.applied yes own this

pub returns-in-Within-clause-spends : goal.returns-in-Within-clause-spends
returns-in-Within-clause-spends g c = λ yes given own is.
    let x = c.args.layouts.now.reading in
    let r = records c.args.layouts.now in
    let on : Support = support_of c.args.plan.now in
    let this = subst (λ (s : Step). IsStep x r given on s own) c.in-Within.is is in
    c.run_within.ensures.spends yes own this

pub run_located_within-requires-clause-step : goal.run_located_within-requires-clause-step
run_located_within-requires-clause-step g c =
    let x = c.args.layouts.now.reading in
    let r = records c.args.layouts.now in
    let on : Support = support_of c.args.plan.now in
    let (given, own, at) = c.requires.step in
    let is = subst (λ (s : Step). IsStep x r given on s own) c.in-LocatedWithin.is at in
    (own, is)

pub returns-in-LocatedWithin-clause-applied : goal.returns-in-LocatedWithin-clause-applied
returns-in-LocatedWithin-clause-applied g c = λ yes given own is.
    let x = c.args.layouts.now.reading in
    let r = records c.args.layouts.now in
    let on : Support = support_of c.args.plan.now in
    let this = subst (λ (s : Step). IsStep x r given on s own) c.in-LocatedWithin.is is in
    c.run_located_within.ensures.applied yes own this

pub returns-in-LocatedWithin-clause-spends : goal.returns-in-LocatedWithin-clause-spends
returns-in-LocatedWithin-clause-spends g c = λ yes given own is.
    let x = c.args.layouts.now.reading in
    let r = records c.args.layouts.now in
    let on : Support = support_of c.args.plan.now in
    let this = subst (λ (s : Step). IsStep x r given on s own) c.in-LocatedWithin.is is in
    c.run_located_within.ensures.spends yes own this
