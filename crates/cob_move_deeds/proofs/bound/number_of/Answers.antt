use Rattle.std.proofs.lemmas.Result.{err_from_is_err_and}
use Rattle.cob_move_data.specs.Moves.{Records}
use Rattle.cob_move_deeds.specs.Carrying.{records_of_sides}
use Rattle.cob_move_deeds.specs.Tests.{past_bound}
use Rattle.cob_move_deeds.proofs.ReadLemmas.{read_so}
use Rattle.cob_move_deeds.proofs.TestLemmas.{nowhere_says}
use Rattle.cob_move_deeds.proofs.bound.number_of.Goals as goal

pub returns-in_err-place-clause-says : goal.returns-in_err-place-clause-says
returns-in_err-place-clause-says c =
    let r : Records = records_of_sides c.args.sides.now in
    let p = err_from_is_err_and c.from_residual.result c.from_residual.ensures.1 in
    rw (p.1, p.2) (nowhere_says r (past_bound r c.args.bound.now 0) c.args.sides.now.input.now c.args.output.now c.in_err-place.field-0.0 c.in_err-place.ensures.located)

pub returns-in-In-clause-reads : goal.returns-in-In-clause-reads
returns-in-In-clause-reads c =
    read_so c.args.sides.now.output_layout.now 0 c.in_ok-place.place c.number_in.result c.args.scratch.now c.place.new.scratch c.in_ok-place.ensures.reads

pub returns-in-Out-clause-reads : goal.returns-in-Out-clause-reads
returns-in-Out-clause-reads c =
    read_so c.args.sides.now.output_layout.now 0 c.in_ok-place.place c.number_in-in-Out.result c.args.scratch.now c.place.new.scratch c.in_ok-place.ensures.reads
