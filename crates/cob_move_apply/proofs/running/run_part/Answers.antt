use Rattle.std.proofs.Common.{Ok}
use Rattle.cob_move_apply.specs.Applied.{done}
use Rattle.cob_move_apply.specs.Surveyed.{records}
use Rattle.cob_move_apply.proofs.PicturedLemmas.{part_pictured}
use Rattle.cob_move_apply.proofs.SpendingLemmas.{part_spends}
use Rattle.cob_move_apply.proofs.running.run_part.Goals as goal

pub returns-in-Ok-clause-moved : goal.returns-in-Ok-clause-moved
returns-in-Ok-clause-moved c = λ yes given part m at.
    part_pictured c.args.layouts.now.reading (records c.args.layouts.now) given c.args.plan.now.bases.items c.args.plan.now.pictured c.args.one part m c.args.input.now c.args.output.now
    (done c.run_pictured.new.output) c.in-Pictured.is c.requires.input c.requires.output c.in-Ok.ensures.made at

pub returns-in-Ok-clause-spends : goal.returns-in-Ok-clause-spends
returns-in-Ok-clause-spends c = λ yes given part m at.
    part_spends c.args.layouts.now.reading (records c.args.layouts.now) given c.args.plan.now.bases.items c.args.plan.now.pictured c.args.one part m c.args.input.now c.args.output.now
    (Ok c.in-Ok.field-0) c.run_pictured.new.output _ _ c.in-Pictured.is c.in-Ok.ensures.made c.in-Ok.ensures.spends at
