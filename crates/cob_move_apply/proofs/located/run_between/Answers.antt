use Rattle.std.proofs.Common.{◌≡◌, ℕ, Ok, refl, rules}
use Rattle.cob_codec.specs.declared.reading.Reading.TheVariants as reading
use Rattle.cob_move_data.specs.Moves.{operand_in}
use Rattle.cob_move_data.specs.declared.operands.Side.TheVariants.{In}
use Rattle.cob_move_apply.specs.Applied.{done}
use Rattle.cob_move_apply.specs.Surveyed.{records}
use Rattle.cob_move_apply.specs.declared.step.LocatedStep.TheVariants.{Always, Characters, Pictured}
use Rattle.cob_move_apply.proofs.LocatedLemmas.{carries_as, characters_there, made_always, made_by_picture, made_characters}
use Rattle.cob_move_apply.proofs.PreparedLemmas.{kinds_of}
use Rattle.cob_move_apply.proofs.SpendingLemmas.{always_spends, characters_spend, pictured_spends}
use Rattle.cob_move_apply.proofs.located.run_between.Goals as goal

pub make_text-requires-clause-step : goal.make_text-requires-clause-step
make_text-requires-clause-step g c =
    let r = records c.args.layouts.now in
    let one = c.args.one.now in
    let p = c.args.places.now in
    let from = (operand_in r.input one.sent).kind in
    let to = (operand_in r.output one.receiver).kind in
    let carries = carries_as c.args.plan.now.prepared c.args.plan.now.pictured from to one.step (Characters c.in-Characters.right) c.in-Characters.is c.requires.ready.carries in
    (kinds_of from to p.from p.to, characters_there In r c.args.plan.now.prepared one c.in-Characters.right p c.args.input.now c.args.output.now c.requires.stand carries, record { sent = refl; received = refl })

pub returns-in-Characters-clause-moved : goal.returns-in-Characters-clause-moved
returns-in-Characters-clause-moved g c = λ yes.
    let r = records c.args.layouts.now in
    let one = c.args.one.now in
    let from = (operand_in r.input one.sent).kind in
    let to = (operand_in r.output one.receiver).kind in
    let carries = carries_as c.args.plan.now.prepared c.args.plan.now.pictured from to one.step (Characters c.in-Characters.right) c.in-Characters.is c.requires.ready.carries in
    made_characters In r c.args.layouts.now.reading c.args.plan.now.prepared one c.in-Characters.right c.args.places.now c.args.input.now c.args.output.now
    (done c.make_text.new.output) c.requires.keeps c.requires.stand carries c.make_text.ensures.made

pub returns-in-Characters-clause-spends : goal.returns-in-Characters-clause-spends
returns-in-Characters-clause-spends g c = λ yes before spent.
    let r = records c.args.layouts.now in
    let one = c.args.one.now in
    let from = (operand_in r.input one.sent).kind in
    let to = (operand_in r.output one.receiver).kind in
    let carries = carries_as c.args.plan.now.prepared c.args.plan.now.pictured from to one.step (Characters c.in-Characters.right) c.in-Characters.is c.requires.ready.carries in
    characters_spend {A = ℕ} In r c.args.layouts.now.reading c.args.plan.now.prepared one c.in-Characters.right c.args.places.now c.args.input.now c.args.output.now
    (Ok 0) c.make_text.new.output before _ _ c.requires.keeps c.requires.stand carries c.make_text.ensures.made spent c.make_text.ensures.spends

pub returns-in-Ok-clause-moved : goal.returns-in-Ok-clause-moved
returns-in-Ok-clause-moved g c = λ yes.
    let r = records c.args.layouts.now in
    let one = c.args.one.now in
    let from = (operand_in r.input one.sent).kind in
    let to = (operand_in r.output one.receiver).kind in
    let carries = carries_as c.args.plan.now.prepared c.args.plan.now.pictured from to one.step (Always c.in-Always.step) c.in-Always.is c.requires.ready.carries in
    made_always In r c.args.layouts.now.reading c.args.plan.now.prepared one c.in-Always.step c.args.places.now c.args.input.now c.args.output.now
    (done c.make_prepared.new.output) c.requires.keeps c.requires.stand carries c.in-Ok.ensures.made

pub returns-in-Ok-clause-spends : goal.returns-in-Ok-clause-spends
returns-in-Ok-clause-spends g c = λ yes before spent.
    let r = records c.args.layouts.now in
    let one = c.args.one.now in
    let from = (operand_in r.input one.sent).kind in
    let to = (operand_in r.output one.receiver).kind in
    let carries = carries_as c.args.plan.now.prepared c.args.plan.now.pictured from to one.step (Always c.in-Always.step) c.in-Always.is c.requires.ready.carries in
    always_spends {A = ℕ} In r c.args.layouts.now.reading c.args.plan.now.prepared one c.in-Always.step c.args.places.now c.args.input.now c.args.output.now
    (Ok 0) c.make_prepared.new.output before _ _ c.requires.keeps c.requires.stand carries c.in-Ok.ensures.made spent c.in-Ok.ensures.spends

pub returns-in-Ok-run_pictured-clause-moved : goal.returns-in-Ok-run_pictured-clause-moved
returns-in-Ok-run_pictured-clause-moved g c = λ yes.
    let r = records c.args.layouts.now in
    let one = c.args.one.now in
    let from = (operand_in r.input one.sent).kind in
    let to = (operand_in r.output one.receiver).kind in
    let carries = carries_as c.args.plan.now.prepared c.args.plan.now.pictured from to one.step (Pictured c.in-Pictured.step) c.in-Pictured.is c.requires.ready.carries in
    let read : c.args.layouts.now.reading ≡ reading.Pictured = search rules in
    made_by_picture r c.args.layouts.now.reading c.args.plan.now.pictured one c.in-Pictured.step c.args.places.now c.args.input.now c.args.output.now
    (done c.run_pictured.new.output) read c.requires.stand carries c.in-Ok-run_pictured.ensures.made

pub returns-in-Ok-run_pictured-clause-spends : goal.returns-in-Ok-run_pictured-clause-spends
returns-in-Ok-run_pictured-clause-spends g c = λ yes before spent.
    let r = records c.args.layouts.now in
    let one = c.args.one.now in
    let from = (operand_in r.input one.sent).kind in
    let to = (operand_in r.output one.receiver).kind in
    let carries = carries_as c.args.plan.now.prepared c.args.plan.now.pictured from to one.step (Pictured c.in-Pictured.step) c.in-Pictured.is c.requires.ready.carries in
    let read : c.args.layouts.now.reading ≡ reading.Pictured = search rules in
    pictured_spends {A = ℕ} r c.args.layouts.now.reading c.args.plan.now.pictured one c.in-Pictured.step c.args.places.now c.args.input.now c.args.output.now
    (Ok 0) c.run_pictured.new.output before _ _ read c.requires.stand carries c.in-Ok-run_pictured.ensures.made spent c.in-Ok-run_pictured.ensures.spends
