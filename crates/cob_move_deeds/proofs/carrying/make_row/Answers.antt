use Rattle.std.proofs.Common.{arith, refl}
use Rattle.std.proofs.lemmas.Option.{slice_get_within}
use Rattle.std.proofs.lemmas.Result.{err_from_is_err_and}
use Rattle.cob_move_data.specs.Moves.{Records}
use Rattle.cob_move_deeds.specs.Carrying.{records_of_sides}
use Rattle.cob_move_deeds.specs.Flows.{FlowSupport}
use Rattle.cob_move_deeds.specs.Known.{StillGives}
use Rattle.cob_move_deeds.specs.Prepared.{flow_support}
use Rattle.cob_move_deeds.proofs.ReadLemmas.{spends_first}
use Rattle.cob_move_deeds.proofs.RowLemmas.{row_leaves, row_rises, row_spends, row_stop_reads, row_stops}
use Rattle.cob_move_deeds.proofs.SteadyLemmas.{still_gives}
use Rattle.cob_move_deeds.proofs.carrying.make_row.Goals as goal

pub returns-in_default-clause-spends : goal.returns-in_default-clause-spends
returns-in_default-clause-spends c =
    spends_first (records_of_sides c.args.sides.now) (flow_support c.args.deeds.now) c.args.flows.now c.args.sides.now.input.now c.args.output.now c.args.scratch.now

pub stretch_of-steady-requires : goal.stretch_of-steady-requires
stretch_of-steady-requires c = record { within = slice_get_within c.args.deeds.now.bounds.items c.args.bound c.requires.gives.0 c.requires.gives.1 }

pub returns-then-not-holds-clause-spends : goal.returns-then-not-holds-clause-spends
returns-then-not-holds-clause-spends c =
    spends_first (records_of_sides c.args.sides.now) (flow_support c.args.deeds.now) c.args.flows.now c.args.sides.now.input.now c.args.output.now c.args.scratch.now

pub returns-then-not-holds-2-clause-spends : goal.returns-then-not-holds-2-clause-spends
returns-then-not-holds-2-clause-spends c =
    spends_first (records_of_sides c.args.sides.now) (flow_support c.args.deeds.now) c.args.flows.now c.args.sides.now.input.now c.args.output.now c.args.scratch.now

pub make_moves-requires-clause-rises : goal.make_moves-requires-clause-rises
make_moves-requires-clause-rises c =
    row_rises c.args.bound c.args.last c.in-Some.first c.args.flows.now c.row_from-row.result.to c.row_from-row.result.left.now c.row_from-row.ensures.row

pub returns-in_err-make_moves-clause-stops : goal.returns-in_err-make_moves-clause-stops
returns-in_err-make_moves-clause-stops c =
    let r : Records = records_of_sides c.args.sides.now in
    let on : FlowSupport = flow_support c.args.deeds.now in
    let input = c.args.sides.now.input.now in
    let before = c.args.output.now in
    let first = c.in-Some.first in
    let to = c.row_from-row.result.to in
    let left = c.row_from-row.result.left.now in
    let (b, at, gives) = c.requires.gives in
    let (low, high) = c.if-not-holds-2.ensures refl in
    let still : StillGives r on c.args.bound c.args.last first to input before =
    still_gives c.one_outcome_of_counts.ensures.needed r on b c.stretch_of-steady.result c.args.bound c.args.last first to input before at (c.stretch_of-steady.ensures r b c.requires.prepared at) low high c.requires.output gives in
    let p = err_from_is_err_and c.from_residual.result c.from_residual.ensures.1 in
    rw (p.1, p.2) (row_stops r on c.args.bound c.args.last first to c.args.flows.now to left input before c.make_moves.new.output
    c.in_err-make_moves.field-0.0 c.requires.prepared.moves still c.row_from-row.ensures.row (omega arith) c.row_from-row.ensures.within c.in_err-make_moves.ensures.applied)

pub returns-in_err-make_moves-clause-spent : goal.returns-in_err-make_moves-clause-spent
returns-in_err-make_moves-clause-spent c =
    let r : Records = records_of_sides c.args.sides.now in
    let on : FlowSupport = flow_support c.args.deeds.now in
    let input = c.args.sides.now.input.now in
    let before = c.args.output.now in
    let first = c.in-Some.first in
    let to = c.row_from-row.result.to in
    let left = c.row_from-row.result.left.now in
    let (b, at, gives) = c.requires.gives in
    let (low, high) = c.if-not-holds-2.ensures refl in
    let still : StillGives r on c.args.bound c.args.last first to input before =
    still_gives c.one_outcome_of_counts.ensures.needed r on b c.stretch_of-steady.result c.args.bound c.args.last first to input before at (c.stretch_of-steady.ensures r b c.requires.prepared at) low high c.requires.output gives in
    let p = err_from_is_err_and c.from_residual.result c.from_residual.ensures.1 in
    rw p.1 (row_stop_reads c.one_ending.ensures r on c.args.bound c.args.last first to c.args.flows.now to left input before
    c.in_err-make_moves.field-0.0 c.args.scratch.now c.make_moves.new.scratch c.requires.prepared.moves still c.row_from-row.ensures.row (omega arith) c.row_from-row.ensures.within c.in_err-make_moves.ensures.reads)

pub leave-requires : goal.leave-requires
leave-requires c = record { rises = row_rises c.args.bound c.args.last c.in-Some.first c.args.flows.now c.row_from-row.result.to c.row_from-row.result.left.now c.row_from-row.ensures.row }

pub returns-clause-leaves : goal.returns-clause-leaves
returns-clause-leaves c =
    let r : Records = records_of_sides c.args.sides.now in
    let on : FlowSupport = flow_support c.args.deeds.now in
    let input = c.args.sides.now.input.now in
    let before = c.args.output.now in
    let first = c.in-Some.first in
    let to = c.row_from-row.result.to in
    let left = c.row_from-row.result.left.now in
    let (b, at, gives) = c.requires.gives in
    let (low, high) = c.if-not-holds-2.ensures refl in
    let still : StillGives r on c.args.bound c.args.last first to input before =
    still_gives c.one_outcome_of_counts.ensures.needed r on b c.stretch_of-steady.result c.args.bound c.args.last first to input before at (c.stretch_of-steady.ensures r b c.requires.prepared at) low high c.requires.output gives in
    row_leaves r on c.args.bound c.args.last first to c.args.flows.now to left input before c.make_moves.new.output
    c.requires.prepared.moves still c.row_from-row.ensures.row (omega arith) c.row_from-row.ensures.within c.in_ok-make_moves.ensures.applied

pub returns-clause-spends : goal.returns-clause-spends
returns-clause-spends c =
    let r : Records = records_of_sides c.args.sides.now in
    let on : FlowSupport = flow_support c.args.deeds.now in
    let input = c.args.sides.now.input.now in
    let before = c.args.output.now in
    let first = c.in-Some.first in
    let to = c.row_from-row.result.to in
    let left = c.row_from-row.result.left.now in
    let (b, at, gives) = c.requires.gives in
    let (low, high) = c.if-not-holds-2.ensures refl in
    let still : StillGives r on c.args.bound c.args.last first to input before =
    still_gives c.one_outcome_of_counts.ensures.needed r on b c.stretch_of-steady.result c.args.bound c.args.last first to input before at (c.stretch_of-steady.ensures r b c.requires.prepared at) low high c.requires.output gives in
    row_spends c.one_ending.ensures r on c.args.bound c.args.last first to c.args.flows.now to left input before c.make_moves.new.output
    c.args.scratch.now c.make_moves.new.scratch c.requires.prepared.moves still c.row_from-row.ensures.row (omega arith) c.row_from-row.ensures.within c.in_ok-make_moves.ensures.applied c.in_ok-make_moves.ensures.reads

pub returns-clause-known : goal.returns-clause-known
returns-clause-known c =
    c.leave.ensures (records_of_sides c.args.sides.now) (flow_support c.args.deeds.now) c.args.sides.now.input.now c.args.output.now c.make_moves.new.output c.requires.known c.requires.output c.row_from-row.ensures.within
    c.in_ok-make_moves.ensures.applied
