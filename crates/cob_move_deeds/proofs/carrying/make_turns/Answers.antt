use Rattle.std.proofs.Common.{Err, Some, ℕ, ◌+◌, arith, refl, subst}
use Rattle.std.proofs.lemmas.Result.{err_from_is_err_and}
use Rattle.cob_move_data.specs.Moves.{Records}
use Rattle.cob_move_apply.specs.Applied.{Applied, ending}
use Rattle.cob_move_apply.specs.Marked.{moves_between_marks}
use Rattle.cob_move_deeds.specs.Carrying.{records_of_sides}
use Rattle.cob_move_deeds.specs.Flows.{FlowSupport, loop_done}
use Rattle.cob_move_deeds.specs.Prepared.{flow_support}
use Rattle.cob_move_deeds.specs.Tests.{past_bound}
use Rattle.cob_move_deeds.proofs.LoopLemmas.{few_turns, loop_made, loop_stopped}
use Rattle.cob_move_deeds.proofs.ReadLemmas.{loop_reads, none_reads}
use Rattle.cob_move_deeds.proofs.TestLemmas.{below_most}
use Rattle.cob_move_deeds.proofs.carrying.make_turns.Goals as goal

pub returns-in_err-number-clause-carried : goal.returns-in_err-number-clause-carried
returns-in_err-number-clause-carried c =
    let r : Records = records_of_sides c.args.sides.now in
    let on : FlowSupport = flow_support c.args.deeds.now in
    let is = c.requires.counted in
    let p = err_from_is_err_and c.from_residual.result c.from_residual.ensures.1 in
    rw (p.1, p.2) (loop_stopped r on c.args.one.now is.bound c.args.sides.now.input.now c.args.output.now c.in_err-number.field-0.0 is.at (c.in_err-number.ensures.says is.bound is.at))

pub make_moves-requires-clause-within : goal.make_moves-requires-clause-within
make_moves-requires-clause-within c =
    let r : Records = records_of_sides c.args.sides.now in
    let is = c.requires.counted in
    let below = below_most r (past_bound r is.bound 0) c.args.sides.now.input.now c.args.output.now c.in_ok-number.number (c.in_ok-number.ensures.says is.bound is.at) in
    let few = few_turns c.args.one.now.from c.args.one.now.by c.in_ok-number.number is.bound.most c.args.one.now.turns is.grows below is.far in
    omega (arith, few, is.marks, c.turns_up_to-turns.ensures)

pub returns-clause-carried : goal.returns-clause-carried
returns-clause-carried c =
    let r : Records = records_of_sides c.args.sides.now in
    let on : FlowSupport = flow_support c.args.deeds.now in
    let is = c.requires.counted in
    let gives = c.in_ok-number.ensures.says is.bound is.at in
    let below = below_most r (past_bound r is.bound 0) c.args.sides.now.input.now c.args.output.now c.in_ok-number.number gives in
    loop_made c.tests_are_one.ensures r on c.args.one.now is.bound c.in_ok-number.number c.args.sides.now.input.now c.args.output.now (ending c.make_moves.result c.make_moves.new.output)
    c.requires.prepared.moves is is.at refl gives below
    (subst (λ (n : ℕ). Applied r (moves_between_marks r on.moves c.args.one.now.first (c.args.one.now.first + n)) c.args.sides.now.input.now c.args.output.now (ending c.make_moves.result c.make_moves.new.output)) c.turns_up_to-turns.ensures c.make_moves.ensures.applied)

pub returns-in_err-number-clause-reads : goal.returns-in_err-number-clause-reads
returns-in_err-number-clause-reads c =
    let r : Records = records_of_sides c.args.sides.now in
    let on : FlowSupport = flow_support c.args.deeds.now in
    let p = err_from_is_err_and c.from_residual.result c.from_residual.ensures.1 in
    rw p.1 (none_reads {A = Unit {0}} r (loop_done r on (Some c.args.one.now)) c.args.sides.now.input.now c.args.output.now (Err c.in_err-number.field-0.0) c.args.scratch.now c.read_bound.new.scratch c.in_err-number.ensures.reads)

pub returns-clause-reads : goal.returns-clause-reads
returns-clause-reads c =
    let r : Records = records_of_sides c.args.sides.now in
    let on : FlowSupport = flow_support c.args.deeds.now in
    let is = c.requires.counted in
    let gives = c.in_ok-number.ensures.says is.bound is.at in
    let below = below_most r (past_bound r is.bound 0) c.args.sides.now.input.now c.args.output.now c.in_ok-number.number gives in
    loop_reads r on c.args.one.now is.bound c.in_ok-number.number c.turns_up_to-turns.result c.args.sides.now.input.now c.args.output.now c.make_moves.result c.args.scratch.now c.read_bound.new.scratch c.make_moves.new.scratch
    c.requires.prepared.moves is is.at refl gives below c.turns_up_to-turns.ensures c.in_ok-number.ensures.reads c.make_moves.ensures.reads
