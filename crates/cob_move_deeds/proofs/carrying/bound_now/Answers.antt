use Rattle.std.proofs.lemmas.Option.{slice_get_within}
use Rattle.cob_move_data.specs.Moves.{Records}
use Rattle.cob_move_deeds.specs.Carrying.{records_of_sides}
use Rattle.cob_move_deeds.specs.Flows.{FlowSupport}
use Rattle.cob_move_deeds.specs.Prepared.{flow_support}
use Rattle.cob_move_deeds.proofs.RowLemmas.{known_gives}
use Rattle.cob_move_deeds.proofs.carrying.bound_now.Goals as goal

pub returns-in-Some-clause-says : goal.returns-in-Some-clause-says
returns-in-Some-clause-says c = λ b at.
    let r : Records = records_of_sides c.args.sides.now in
    let on : FlowSupport = flow_support c.args.deeds.now in
    known_gives r on c.args.number c.in-Some.gave c.args.sides.now.input.now c.args.output.now b (c.in-Some.ensures.gives r on c.args.sides.now.input.now c.args.output.now c.requires.known) at

pub read_bound-requires-clause-within : goal.read_bound-requires-clause-within
read_bound-requires-clause-within c = slice_get_within c.args.deeds.now.bounds.items c.args.number c.requires.bound.0 c.requires.bound.1

pub stretch_of-requires : goal.stretch_of-requires
stretch_of-requires c = record { within = slice_get_within c.args.deeds.now.bounds.items c.args.number c.requires.bound.0 c.requires.bound.1 }

pub returns-clause-known : goal.returns-clause-known
returns-clause-known c =
    let r : Records = records_of_sides c.args.sides.now in
    let on : FlowSupport = flow_support c.args.deeds.now in
    let (b, at) = c.requires.bound in
    c.keep.ensures r on c.args.sides.now.input.now c.args.output.now (c.number_of.ensures.known r on c.args.sides.now.input.now c.args.output.now c.requires.known)
    (record { given = b; at = at; steady = c.stretch_of.ensures r b c.requires.prepared at; gives = c.in_ok-gave.ensures.says b at })
