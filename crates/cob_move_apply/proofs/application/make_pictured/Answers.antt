use Rattle.std.proofs.Common.{List, sym, subst}
use Rattle.cob_move_apply.specs.Applied.{ending}
use Rattle.cob_move_apply.specs.Steps.{IsMoveOfPart}
use Rattle.cob_move_apply.specs.Surveyed.{records}
use Rattle.cob_move_apply.specs.declared.basis.Basis.{Basis}
use Rattle.cob_move_apply.proofs.PartLemmas.{part_room}
use Rattle.cob_move_apply.proofs.PicturedLemmas.{part_pictured, pictured_reads, pictured_step, pictured_within}
use Rattle.cob_move_apply.proofs.SpendingLemmas.{part_spends}
use Rattle.cob_move_apply.proofs.application.make_pictured.Goals as goal

pub run_pictured-requires-clause-step : goal.run_pictured-requires-clause-step
run_pictured-requires-clause-step c =
    let (m, part) = c.requires.part in
    pictured_step c.args.layouts.now.reading (records c.args.layouts.now) c.args.given.now c.args.plan.now.bases.items c.args.plan.now.pictured c.args.one c.args.part.now m c.in-Pictured.is part

pub run_pictured-requires-clause-reads : goal.run_pictured-requires-clause-reads
run_pictured-requires-clause-reads c =
    let (m, part) = c.requires.part in
    pictured_reads c.args.layouts.now.reading (records c.args.layouts.now) c.args.given.now c.args.plan.now.bases.items c.args.plan.now.pictured c.args.one c.args.part.now m c.args.input.now c.args.output.now c.in-Pictured.is part c.requires.input c.requires.output

pub run_pictured-requires-clause-writes : goal.run_pictured-requires-clause-writes
run_pictured-requires-clause-writes c =
    let (m, part) = c.requires.part in
    pictured_within c.args.layouts.now.reading (records c.args.layouts.now) c.args.given.now c.args.plan.now.bases.items c.args.plan.now.pictured c.args.one c.args.part.now m c.in-Pictured.is part

pub returns-in-Pictured-clause-moved : goal.returns-in-Pictured-clause-moved
returns-in-Pictured-clause-moved c = λ m part.
    part_pictured c.args.layouts.now.reading (records c.args.layouts.now) c.args.given.now c.args.plan.now.bases.items c.args.plan.now.pictured c.args.one c.args.part.now m c.args.input.now c.args.output.now
    (ending c.run_pictured.result c.run_pictured.new.output) c.in-Pictured.is c.requires.input c.requires.output c.run_pictured.ensures.made part

pub make_part-requires-clause-part : goal.make_part-requires-clause-part
make_part-requires-clause-part c =
    let (m, part) = c.requires.part in
    (m, subst (λ (bs : List Basis). IsMoveOfPart c.args.layouts.now.reading (records c.args.layouts.now) c.args.given.now bs c.args.part.now m) (sym c.as_slice-bases.ensures.value) part.0)

pub make_part-requires-clause-room : goal.make_part-requires-clause-room
make_part-requires-clause-room c =
    let (m, part) = c.requires.part in
    part_room c.args.layouts.now.reading (records c.args.layouts.now) c.args.given.now c.as_slice-bases.result.now c.args.part.now m
    (subst (λ (bs : List Basis). IsMoveOfPart c.args.layouts.now.reading (records c.args.layouts.now) c.args.given.now bs c.args.part.now m) (sym c.as_slice-bases.ensures.value) part.0)

pub returns-in_default-clause-moved : goal.returns-in_default-clause-moved
returns-in_default-clause-moved c = λ m part.
    c.make_part.ensures.moved m (subst (λ (bs : List Basis). IsMoveOfPart c.args.layouts.now.reading (records c.args.layouts.now) c.args.given.now bs c.args.part.now m) (sym c.as_slice-bases.ensures.value) part.0)

pub returns-in-Pictured-clause-spends : goal.returns-in-Pictured-clause-spends
returns-in-Pictured-clause-spends c = λ m part.
    part_spends c.args.layouts.now.reading (records c.args.layouts.now) c.args.given.now c.args.plan.now.bases.items c.args.plan.now.pictured c.args.one c.args.part.now m c.args.input.now c.args.output.now
    c.run_pictured.result c.run_pictured.new.output _ _ c.in-Pictured.is c.run_pictured.ensures.made c.run_pictured.ensures.spends part

pub returns-in_default-clause-spends : goal.returns-in_default-clause-spends
returns-in_default-clause-spends c = λ m part.
    c.make_part.ensures.spends m (subst (λ (bs : List Basis). IsMoveOfPart c.args.layouts.now.reading (records c.args.layouts.now) c.args.given.now bs c.args.part.now m) (sym c.as_slice-bases.ensures.value) part.0)
