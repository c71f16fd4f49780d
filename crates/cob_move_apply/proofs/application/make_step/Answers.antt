use Rattle.std.proofs.Common.{List, subst, sym}
use Rattle.cob_move_apply.specs.Applied.{ending}
use Rattle.cob_move_apply.specs.Steps.{IsMoveOfPart, IsStep, Support, support_of}
use Rattle.cob_move_apply.specs.Surveyed.{records}
use Rattle.cob_move_apply.specs.declared.basis.Basis.{Basis}
use Rattle.cob_move_apply.specs.declared.step.Step.{Step}
use Rattle.cob_move_apply.proofs.PartLemmas.{part_room}
use Rattle.cob_move_apply.proofs.StepLemmas.{constant_within, copy_reads, made_constant, made_copy, made_part, made_pictured, space_copy, the_constant, the_part, the_pictured}
use Rattle.cob_move_apply.proofs.SpendingLemmas.{constant_spends, copy_spends, part_step_spends, pictured_step_spends}
use Rattle.cob_move_apply.proofs.application.make_step.Goals as goal

pub make_part-requires-clause-part : goal.make_part-requires-clause-part
make_part-requires-clause-part c =
    let x = c.args.layouts.now.reading in
    let r = records c.args.layouts.now in
    let on : Support = support_of c.args.plan.now in
    let is = subst (λ (s : Step). IsStep x r c.args.given.now on s c.requires.step.0) c.in-Part.is c.requires.step.1 in
    let (m, part) = the_part x r c.args.given.now on c.in-Part.part c.requires.step.0 is in
    (m, subst (λ (bs : List Basis). IsMoveOfPart x r c.args.given.now bs c.in-Part.part m) (sym c.as_slice-bases.ensures.value) part)

pub make_part-requires-clause-room : goal.make_part-requires-clause-room
make_part-requires-clause-room c =
    let x = c.args.layouts.now.reading in
    let r = records c.args.layouts.now in
    let on : Support = support_of c.args.plan.now in
    let is = subst (λ (s : Step). IsStep x r c.args.given.now on s c.requires.step.0) c.in-Part.is c.requires.step.1 in
    let (m, part) = the_part x r c.args.given.now on c.in-Part.part c.requires.step.0 is in
    part_room x r c.args.given.now c.as_slice-bases.result.now c.in-Part.part m (subst (λ (bs : List Basis). IsMoveOfPart x r c.args.given.now bs c.in-Part.part m) (sym c.as_slice-bases.ensures.value) part)

pub returns-in-Part-clause-applied : goal.returns-in-Part-clause-applied
returns-in-Part-clause-applied c = λ own is.
    let x = c.args.layouts.now.reading in
    let r = records c.args.layouts.now in
    let on : Support = support_of c.args.plan.now in
    let this = subst (λ (s : Step). IsStep x r c.args.given.now on s own) c.in-Part.is is in
    made_part x r c.args.given.now on c.in-Part.part own c.args.input.now c.args.output.now (ending c.make_part.result c.make_part.new.output)
    (λ m part. c.make_part.ensures.moved m (subst (λ (bs : List Basis). IsMoveOfPart x r c.args.given.now bs c.in-Part.part m) (sym c.as_slice-bases.ensures.value) part)) this

pub make_one-requires-clause-step : goal.make_one-requires-clause-step
make_one-requires-clause-step c =
    let x = c.args.layouts.now.reading in
    let r = records c.args.layouts.now in
    let on : Support = support_of c.args.plan.now in
    (c.requires.step.0, subst (λ (s : Step). IsStep x r c.args.given.now on s c.requires.step.0) c.in-Number.is c.requires.step.1)

pub returns-in-Number-clause-applied : goal.returns-in-Number-clause-applied
returns-in-Number-clause-applied c = λ own is.
    let x = c.args.layouts.now.reading in
    let r = records c.args.layouts.now in
    let on : Support = support_of c.args.plan.now in
    let this = subst (λ (s : Step). IsStep x r c.args.given.now on s own) c.in-Number.is is in
    c.make_one.ensures.applied own this

pub make_one-requires-in-Wide-clause-step : goal.make_one-requires-in-Wide-clause-step
make_one-requires-in-Wide-clause-step c =
    let x = c.args.layouts.now.reading in
    let r = records c.args.layouts.now in
    let on : Support = support_of c.args.plan.now in
    (c.requires.step.0, subst (λ (s : Step). IsStep x r c.args.given.now on s c.requires.step.0) c.in-Wide.is c.requires.step.1)

pub returns-in-Wide-clause-applied : goal.returns-in-Wide-clause-applied
returns-in-Wide-clause-applied c = λ own is.
    let x = c.args.layouts.now.reading in
    let r = records c.args.layouts.now in
    let on : Support = support_of c.args.plan.now in
    let this = subst (λ (s : Step). IsStep x r c.args.given.now on s own) c.in-Wide.is is in
    c.make_one-in-Wide.ensures.applied own this

pub make_one-requires-in-AnyNumber-clause-step : goal.make_one-requires-in-AnyNumber-clause-step
make_one-requires-in-AnyNumber-clause-step c =
    let x = c.args.layouts.now.reading in
    let r = records c.args.layouts.now in
    let on : Support = support_of c.args.plan.now in
    (c.requires.step.0, subst (λ (s : Step). IsStep x r c.args.given.now on s c.requires.step.0) c.in-AnyNumber.is c.requires.step.1)

pub returns-in-AnyNumber-clause-applied : goal.returns-in-AnyNumber-clause-applied
returns-in-AnyNumber-clause-applied c = λ own is.
    let x = c.args.layouts.now.reading in
    let r = records c.args.layouts.now in
    let on : Support = support_of c.args.plan.now in
    let this = subst (λ (s : Step). IsStep x r c.args.given.now on s own) c.in-AnyNumber.is is in
    c.make_one-in-AnyNumber.ensures.applied own this

pub make_one-requires-in-Edited-clause-step : goal.make_one-requires-in-Edited-clause-step
make_one-requires-in-Edited-clause-step c =
    let x = c.args.layouts.now.reading in
    let r = records c.args.layouts.now in
    let on : Support = support_of c.args.plan.now in
    (c.requires.step.0, subst (λ (s : Step). IsStep x r c.args.given.now on s c.requires.step.0) c.in-Edited.is c.requires.step.1)

pub returns-in-Edited-clause-applied : goal.returns-in-Edited-clause-applied
returns-in-Edited-clause-applied c = λ own is.
    let x = c.args.layouts.now.reading in
    let r = records c.args.layouts.now in
    let on : Support = support_of c.args.plan.now in
    let this = subst (λ (s : Step). IsStep x r c.args.given.now on s own) c.in-Edited.is is in
    c.make_one-in-Edited.ensures.applied own this

pub make_one-requires-in-Characters-clause-step : goal.make_one-requires-in-Characters-clause-step
make_one-requires-in-Characters-clause-step c =
    let x = c.args.layouts.now.reading in
    let r = records c.args.layouts.now in
    let on : Support = support_of c.args.plan.now in
    (c.requires.step.0, subst (λ (s : Step). IsStep x r c.args.given.now on s c.requires.step.0) c.in-Characters.is c.requires.step.1)

pub returns-in-Characters-clause-applied : goal.returns-in-Characters-clause-applied
returns-in-Characters-clause-applied c = λ own is.
    let x = c.args.layouts.now.reading in
    let r = records c.args.layouts.now in
    let on : Support = support_of c.args.plan.now in
    let this = subst (λ (s : Step). IsStep x r c.args.given.now on s own) c.in-Characters.is is in
    c.make_one-in-Characters.ensures.applied own this

pub make_one-requires-in-Prepared-clause-step : goal.make_one-requires-in-Prepared-clause-step
make_one-requires-in-Prepared-clause-step c =
    let x = c.args.layouts.now.reading in
    let r = records c.args.layouts.now in
    let on : Support = support_of c.args.plan.now in
    (c.requires.step.0, subst (λ (s : Step). IsStep x r c.args.given.now on s c.requires.step.0) c.in-Prepared.is c.requires.step.1)

pub returns-in-Prepared-clause-applied : goal.returns-in-Prepared-clause-applied
returns-in-Prepared-clause-applied c = λ own is.
    let x = c.args.layouts.now.reading in
    let r = records c.args.layouts.now in
    let on : Support = support_of c.args.plan.now in
    let this = subst (λ (s : Step). IsStep x r c.args.given.now on s own) c.in-Prepared.is is in
    c.make_one-in-Prepared.ensures.applied own this

pub make_pictured-requires-clause-part : goal.make_pictured-requires-clause-part
make_pictured-requires-clause-part c =
    let x = c.args.layouts.now.reading in
    let r = records c.args.layouts.now in
    let on : Support = support_of c.args.plan.now in
    let is = subst (λ (s : Step). IsStep x r c.args.given.now on s c.requires.step.0) c.in-Pictured.is c.requires.step.1 in
    the_pictured x r c.args.given.now on c.in-Pictured.one c.in-Pictured.part c.requires.step.0 is

pub returns-in-Pictured-clause-applied : goal.returns-in-Pictured-clause-applied
returns-in-Pictured-clause-applied c = λ own is.
    let x = c.args.layouts.now.reading in
    let r = records c.args.layouts.now in
    let on : Support = support_of c.args.plan.now in
    let this = subst (λ (s : Step). IsStep x r c.args.given.now on s own) c.in-Pictured.is is in
    made_pictured x r c.args.given.now on c.in-Pictured.one c.in-Pictured.part own c.args.input.now c.args.output.now (ending c.make_pictured.result c.make_pictured.new.output) c.make_pictured.ensures.moved this

pub make_constant-requires-clause-step : goal.make_constant-requires-clause-step
make_constant-requires-clause-step c =
    let x = c.args.layouts.now.reading in
    let r = records c.args.layouts.now in
    let on : Support = support_of c.args.plan.now in
    let is = subst (λ (s : Step). IsStep x r c.args.given.now on s c.requires.step.0) c.in-Constant.is c.requires.step.1 in
    the_constant x r c.args.given.now on c.in-Constant.one c.requires.step.0 is

pub make_constant-requires-clause-writes : goal.make_constant-requires-clause-writes
make_constant-requires-clause-writes c =
    let x = c.args.layouts.now.reading in
    let r = records c.args.layouts.now in
    let on : Support = support_of c.args.plan.now in
    let is = subst (λ (s : Step). IsStep x r c.args.given.now on s c.requires.step.0) c.in-Constant.is c.requires.step.1 in
    constant_within x r c.args.given.now on c.in-Constant.one c.requires.step.0 is

pub returns-in-Constant-clause-applied : goal.returns-in-Constant-clause-applied
returns-in-Constant-clause-applied c = λ own is.
    let x = c.args.layouts.now.reading in
    let r = records c.args.layouts.now in
    let on : Support = support_of c.args.plan.now in
    let this = subst (λ (s : Step). IsStep x r c.args.given.now on s own) c.in-Constant.is is in
    made_constant x r c.args.given.now on c.in-Constant.one own c.args.input.now c.args.output.now c.make_constant.new.output c.make_constant.ensures.made this

pub copy_across-requires-clause-reads : goal.copy_across-requires-clause-reads
copy_across-requires-clause-reads c =
    let x = c.args.layouts.now.reading in
    let r = records c.args.layouts.now in
    let on : Support = support_of c.args.plan.now in
    let is = subst (λ (s : Step). IsStep x r c.args.given.now on s c.requires.step.0) c.in-Copy.is c.requires.step.1 in
    copy_reads x r c.args.given.now on c.in-Copy.places c.requires.step.0 c.args.input.now is c.requires.input

pub returns-in-Copy-clause-applied : goal.returns-in-Copy-clause-applied
returns-in-Copy-clause-applied c = λ own is.
    let x = c.args.layouts.now.reading in
    let r = records c.args.layouts.now in
    let on : Support = support_of c.args.plan.now in
    let this = subst (λ (s : Step). IsStep x r c.args.given.now on s own) c.in-Copy.is is in
    made_copy x r c.args.given.now on c.in-Copy.places own c.args.input.now c.args.output.now c.copy_across.new.output c.requires.input c.requires.output c.copy_across.ensures this

pub returns-in-Copy-clause-space : goal.returns-in-Copy-clause-space
returns-in-Copy-clause-space c =
    let x = c.args.layouts.now.reading in
    let r = records c.args.layouts.now in
    let on : Support = support_of c.args.plan.now in
    let is = subst (λ (s : Step). IsStep x r c.args.given.now on s c.requires.step.0) c.in-Copy.is c.requires.step.1 in
    space_copy x r c.args.given.now on c.in-Copy.places c.requires.step.0 c.args.input.now c.args.output.now c.copy_across.new.output c.args.space.now c.requires.input c.requires.output c.copy_across.ensures is c.requires.space

pub make_located-requires-clause-step : goal.make_located-requires-clause-step
make_located-requires-clause-step c =
    let x = c.args.layouts.now.reading in
    let r = records c.args.layouts.now in
    let on : Support = support_of c.args.plan.now in
    (c.requires.step.0, subst (λ (s : Step). IsStep x r c.args.given.now on s c.requires.step.0) c.in-Located.is c.requires.step.1)

pub returns-in-Located-clause-applied : goal.returns-in-Located-clause-applied
returns-in-Located-clause-applied c = λ own is.
    let x = c.args.layouts.now.reading in
    let r = records c.args.layouts.now in
    let on : Support = support_of c.args.plan.now in
    let this = subst (λ (s : Step). IsStep x r c.args.given.now on s own) c.in-Located.is is in
    c.make_located.ensures.applied own this

pub returns-in-Part-clause-spends : goal.returns-in-Part-clause-spends
returns-in-Part-clause-spends c = λ own is.
    let x = c.args.layouts.now.reading in
    let r = records c.args.layouts.now in
    let on : Support = support_of c.args.plan.now in
    let this = subst (λ (s : Step). IsStep x r c.args.given.now on s own) c.in-Part.is is in
    part_step_spends x r c.args.given.now on c.in-Part.part own c.args.input.now c.args.output.now c.make_part.result c.make_part.new.output _ _
    (λ m part. c.make_part.ensures.spends m (subst (λ (bs : List Basis). IsMoveOfPart x r c.args.given.now bs c.in-Part.part m) (sym c.as_slice-bases.ensures.value) part)) this

pub returns-in-Number-clause-spends : goal.returns-in-Number-clause-spends
returns-in-Number-clause-spends c = λ own is.
    let x = c.args.layouts.now.reading in
    let r = records c.args.layouts.now in
    let on : Support = support_of c.args.plan.now in
    let this = subst (λ (s : Step). IsStep x r c.args.given.now on s own) c.in-Number.is is in
    c.make_one.ensures.spends own this

pub returns-in-Wide-clause-spends : goal.returns-in-Wide-clause-spends
returns-in-Wide-clause-spends c = λ own is.
    let x = c.args.layouts.now.reading in
    let r = records c.args.layouts.now in
    let on : Support = support_of c.args.plan.now in
    let this = subst (λ (s : Step). IsStep x r c.args.given.now on s own) c.in-Wide.is is in
    c.make_one-in-Wide.ensures.spends own this

pub returns-in-AnyNumber-clause-spends : goal.returns-in-AnyNumber-clause-spends
returns-in-AnyNumber-clause-spends c = λ own is.
    let x = c.args.layouts.now.reading in
    let r = records c.args.layouts.now in
    let on : Support = support_of c.args.plan.now in
    let this = subst (λ (s : Step). IsStep x r c.args.given.now on s own) c.in-AnyNumber.is is in
    c.make_one-in-AnyNumber.ensures.spends own this

pub returns-in-Edited-clause-spends : goal.returns-in-Edited-clause-spends
returns-in-Edited-clause-spends c = λ own is.
    let x = c.args.layouts.now.reading in
    let r = records c.args.layouts.now in
    let on : Support = support_of c.args.plan.now in
    let this = subst (λ (s : Step). IsStep x r c.args.given.now on s own) c.in-Edited.is is in
    c.make_one-in-Edited.ensures.spends own this

pub returns-in-Characters-clause-spends : goal.returns-in-Characters-clause-spends
returns-in-Characters-clause-spends c = λ own is.
    let x = c.args.layouts.now.reading in
    let r = records c.args.layouts.now in
    let on : Support = support_of c.args.plan.now in
    let this = subst (λ (s : Step). IsStep x r c.args.given.now on s own) c.in-Characters.is is in
    c.make_one-in-Characters.ensures.spends own this

pub returns-in-Prepared-clause-spends : goal.returns-in-Prepared-clause-spends
returns-in-Prepared-clause-spends c = λ own is.
    let x = c.args.layouts.now.reading in
    let r = records c.args.layouts.now in
    let on : Support = support_of c.args.plan.now in
    let this = subst (λ (s : Step). IsStep x r c.args.given.now on s own) c.in-Prepared.is is in
    c.make_one-in-Prepared.ensures.spends own this

pub returns-in-Located-clause-spends : goal.returns-in-Located-clause-spends
returns-in-Located-clause-spends c = λ own is.
    let x = c.args.layouts.now.reading in
    let r = records c.args.layouts.now in
    let on : Support = support_of c.args.plan.now in
    let this = subst (λ (s : Step). IsStep x r c.args.given.now on s own) c.in-Located.is is in
    c.make_located.ensures.spends own this

pub returns-in-Pictured-clause-spends : goal.returns-in-Pictured-clause-spends
returns-in-Pictured-clause-spends c = λ own is.
    let x = c.args.layouts.now.reading in
    let r = records c.args.layouts.now in
    let on : Support = support_of c.args.plan.now in
    let this = subst (λ (s : Step). IsStep x r c.args.given.now on s own) c.in-Pictured.is is in
    pictured_step_spends x r c.args.given.now on c.in-Pictured.one c.in-Pictured.part own c.args.input.now c.args.output.now c.make_pictured.result c.make_pictured.new.output _ _ c.make_pictured.ensures.spends this

pub returns-in-Constant-clause-spends : goal.returns-in-Constant-clause-spends
returns-in-Constant-clause-spends c = λ own is.
    let x = c.args.layouts.now.reading in
    let r = records c.args.layouts.now in
    let on : Support = support_of c.args.plan.now in
    let this = subst (λ (s : Step). IsStep x r c.args.given.now on s own) c.in-Constant.is is in
    constant_spends x r c.args.given.now on c.in-Constant.one own c.args.input.now c.args.output.now c.make_constant.new.output _ _ c.make_constant.ensures.made c.make_constant.ensures.spends this

pub returns-in-Copy-clause-spends : goal.returns-in-Copy-clause-spends
returns-in-Copy-clause-spends c = λ own is.
    let x = c.args.layouts.now.reading in
    let r = records c.args.layouts.now in
    let on : Support = support_of c.args.plan.now in
    let this = subst (λ (s : Step). IsStep x r c.args.given.now on s own) c.in-Copy.is is in
    copy_spends r own c.args.input.now c.args.output.now c.copy_across.new.output c.args.space.now.output
    (made_copy x r c.args.given.now on c.in-Copy.places own c.args.input.now c.args.output.now c.copy_across.new.output c.requires.input c.requires.output c.copy_across.ensures this)

pub make_located_constant-requires-clause-step : goal.make_located_constant-requires-clause-step
make_located_constant-requires-clause-step c =
    let x = c.args.layouts.now.reading in
    let r = records c.args.layouts.now in
    let on : Support = support_of c.args.plan.now in
    (c.requires.step.0, subst (λ (s : Step). IsStep x r c.args.given.now on s c.requires.step.0) c.in-LocatedConstant.is c.requires.step.1)

pub returns-in-LocatedConstant-clause-applied : goal.returns-in-LocatedConstant-clause-applied
returns-in-LocatedConstant-clause-applied c = λ own is.
    let x = c.args.layouts.now.reading in
    let r = records c.args.layouts.now in
    let on : Support = support_of c.args.plan.now in
    let this = subst (λ (s : Step). IsStep x r c.args.given.now on s own) c.in-LocatedConstant.is is in
    c.make_located_constant.ensures.applied own this

pub returns-in-LocatedConstant-clause-spends : goal.returns-in-LocatedConstant-clause-spends
returns-in-LocatedConstant-clause-spends c = λ own is.
    let x = c.args.layouts.now.reading in
    let r = records c.args.layouts.now in
    let on : Support = support_of c.args.plan.now in
    let this = subst (λ (s : Step). IsStep x r c.args.given.now on s own) c.in-LocatedConstant.is is in
    c.make_located_constant.ensures.spends own this

pub make_within-requires-clause-step : goal.make_within-requires-clause-step
make_within-requires-clause-step c =
    let x = c.args.layouts.now.reading in
    let r = records c.args.layouts.now in
    let on : Support = support_of c.args.plan.now in
    let is = subst (λ (s : Step). IsStep x r c.args.given.now on s c.requires.step.0) c.in-Within.is c.requires.step.1 in
    (c.requires.step.0, is)

pub returns-in-Within-clause-applied : goal.returns-in-Within-clause-applied
returns-in-Within-clause-applied c = λ own is.
    let x = c.args.layouts.now.reading in
    let r = records c.args.layouts.now in
    let on : Support = support_of c.args.plan.now in
    let this = subst (λ (s : Step). IsStep x r c.args.given.now on s own) c.in-Within.is is in
    c.make_within.ensures.applied own this

pub returns-in-Within-clause-spends : goal.returns-in-Within-clause-spends
returns-in-Within-clause-spends c = λ own is.
    let x = c.args.layouts.now.reading in
    let r = records c.args.layouts.now in
    let on : Support = support_of c.args.plan.now in
    let this = subst (λ (s : Step). IsStep x r c.args.given.now on s own) c.in-Within.is is in
    c.make_within.ensures.spends own this

pub make_within-requires-in-WithinNumber-clause-step : goal.make_within-requires-in-WithinNumber-clause-step
make_within-requires-in-WithinNumber-clause-step c =
    let x = c.args.layouts.now.reading in
    let r = records c.args.layouts.now in
    let on : Support = support_of c.args.plan.now in
    let is = subst (λ (s : Step). IsStep x r c.args.given.now on s c.requires.step.0) c.in-WithinNumber.is c.requires.step.1 in
    (c.requires.step.0, is.0)

pub returns-in-WithinNumber-clause-applied : goal.returns-in-WithinNumber-clause-applied
returns-in-WithinNumber-clause-applied c = λ own is.
    let x = c.args.layouts.now.reading in
    let r = records c.args.layouts.now in
    let on : Support = support_of c.args.plan.now in
    let this = subst (λ (s : Step). IsStep x r c.args.given.now on s own) c.in-WithinNumber.is is in
    c.make_within-in-WithinNumber.ensures.applied own this.0

pub returns-in-WithinNumber-clause-spends : goal.returns-in-WithinNumber-clause-spends
returns-in-WithinNumber-clause-spends c = λ own is.
    let x = c.args.layouts.now.reading in
    let r = records c.args.layouts.now in
    let on : Support = support_of c.args.plan.now in
    let this = subst (λ (s : Step). IsStep x r c.args.given.now on s own) c.in-WithinNumber.is is in
    c.make_within-in-WithinNumber.ensures.spends own this.0

pub make_within-requires-in-WithinEdited-clause-step : goal.make_within-requires-in-WithinEdited-clause-step
make_within-requires-in-WithinEdited-clause-step c =
    let x = c.args.layouts.now.reading in
    let r = records c.args.layouts.now in
    let on : Support = support_of c.args.plan.now in
    let is = subst (λ (s : Step). IsStep x r c.args.given.now on s c.requires.step.0) c.in-WithinEdited.is c.requires.step.1 in
    (c.requires.step.0, is.0)

pub returns-in-WithinEdited-clause-applied : goal.returns-in-WithinEdited-clause-applied
returns-in-WithinEdited-clause-applied c = λ own is.
    let x = c.args.layouts.now.reading in
    let r = records c.args.layouts.now in
    let on : Support = support_of c.args.plan.now in
    let this = subst (λ (s : Step). IsStep x r c.args.given.now on s own) c.in-WithinEdited.is is in
    c.make_within-in-WithinEdited.ensures.applied own this.0

pub returns-in-WithinEdited-clause-spends : goal.returns-in-WithinEdited-clause-spends
returns-in-WithinEdited-clause-spends c = λ own is.
    let x = c.args.layouts.now.reading in
    let r = records c.args.layouts.now in
    let on : Support = support_of c.args.plan.now in
    let this = subst (λ (s : Step). IsStep x r c.args.given.now on s own) c.in-WithinEdited.is is in
    c.make_within-in-WithinEdited.ensures.spends own this.0

pub make_located_within-requires-clause-step : goal.make_located_within-requires-clause-step
make_located_within-requires-clause-step c =
    let x = c.args.layouts.now.reading in
    let r = records c.args.layouts.now in
    let on : Support = support_of c.args.plan.now in
    let is = subst (λ (s : Step). IsStep x r c.args.given.now on s c.requires.step.0) c.in-LocatedWithin.is c.requires.step.1 in
    (c.requires.step.0, is)

pub returns-in-LocatedWithin-clause-applied : goal.returns-in-LocatedWithin-clause-applied
returns-in-LocatedWithin-clause-applied c = λ own is.
    let x = c.args.layouts.now.reading in
    let r = records c.args.layouts.now in
    let on : Support = support_of c.args.plan.now in
    let this = subst (λ (s : Step). IsStep x r c.args.given.now on s own) c.in-LocatedWithin.is is in
    c.make_located_within.ensures.applied own this

pub returns-in-LocatedWithin-clause-spends : goal.returns-in-LocatedWithin-clause-spends
returns-in-LocatedWithin-clause-spends c = λ own is.
    let x = c.args.layouts.now.reading in
    let r = records c.args.layouts.now in
    let on : Support = support_of c.args.plan.now in
    let this = subst (λ (s : Step). IsStep x r c.args.given.now on s own) c.in-LocatedWithin.is is in
    c.make_located_within.ensures.spends own this
