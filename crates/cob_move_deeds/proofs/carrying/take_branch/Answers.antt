use Rattle.std.proofs.Common.{◌∷◌, Bool, Ok, subst}
use Rattle.std.proofs.lemmas.Result.{err_from_is_err_and}
use Rattle.cob_move_data.specs.Moves.{Records}
use Rattle.cob_move_condition.specs.Conditions.{condition_of}
use Rattle.cob_move_deeds.specs.Carrying.{records_of_sides}
use Rattle.cob_move_deeds.specs.Flows.{FlowSupport, sender_at}
use Rattle.cob_move_deeds.specs.Prepared.{flow_support}
use Rattle.cob_move_deeds.specs.Tests.{Holds, Judged}
use Rattle.cob_move_deeds.specs.declared.flow.Flow.TheVariants as flow
use Rattle.cob_move_deeds.proofs.FlowLemmas.{condition_stops, holds_leaves, lacks_leaves}
use Rattle.cob_move_deeds.proofs.ReadLemmas.{holds_spends, lacks_spends, test_stop_reads}
use Rattle.cob_move_deeds.proofs.carrying.take_branch.Goals as goal

pub returns-in_err-holds-clause-stops : goal.returns-in_err-holds-clause-stops
returns-in_err-holds-clause-stops c =
    let r : Records = records_of_sides c.args.sides.now in
    let on : FlowSupport = flow_support c.args.deeds.now in
    let (k, at) = c.requires.there in
    let p = err_from_is_err_and c.from_residual.result c.from_residual.ensures.1 in
    rw (p.1, p.2) (λ lacking. condition_stops r on c.args.condition c.args.holding lacking c.args.more.now k c.args.sides.now.input.now c.args.output.now c.in_err-holds.field-0.0 at (c.in_err-holds.ensures.says k at))

pub returns-in_err-holds-clause-spent : goal.returns-in_err-holds-clause-spent
returns-in_err-holds-clause-spent c =
    let r : Records = records_of_sides c.args.sides.now in
    let on : FlowSupport = flow_support c.args.deeds.now in
    let p = err_from_is_err_and c.from_residual.result c.from_residual.ensures.1 in
    rw p.1 (λ lacking. test_stop_reads r on (flow.Where c.args.condition c.args.holding lacking ∷ c.args.more.now) c.args.sides.now.input.now c.args.output.now c.in_err-holds.field-0.0 c.args.scratch.now c.condition_says.new.scratch
    c.in_err-holds.ensures.reads)

pub returns-then-holds-clause-leaves : goal.returns-then-holds-clause-leaves
returns-then-holds-clause-leaves c = λ lacking.
    let r : Records = records_of_sides c.args.sides.now in
    let on : FlowSupport = flow_support c.args.deeds.now in
    let (k, at) = c.requires.there in
    let says = subst (λ (b : Bool). Judged r (Holds (condition_of (sender_at r on) k)) c.args.sides.now.input.now c.args.output.now (Ok b)) c.if-holds.true (c.in_ok-holds.ensures.says k at) in
    holds_leaves r on c.args.condition c.args.holding lacking c.args.more.now k c.args.sides.now.input.now c.args.output.now at says

pub returns-then-holds-clause-spends : goal.returns-then-holds-clause-spends
returns-then-holds-clause-spends c = λ lacking.
    let r : Records = records_of_sides c.args.sides.now in
    let on : FlowSupport = flow_support c.args.deeds.now in
    let (k, at) = c.requires.there in
    let says = subst (λ (b : Bool). Judged r (Holds (condition_of (sender_at r on) k)) c.args.sides.now.input.now c.args.output.now (Ok b)) c.if-holds.true (c.in_ok-holds.ensures.says k at) in
    holds_spends r on c.args.condition c.args.holding lacking c.args.more.now k c.args.sides.now.input.now c.args.output.now c.args.scratch.now c.condition_says.new.scratch at says c.in_ok-holds.ensures.reads

pub returns-clause-leaves : goal.returns-clause-leaves
returns-clause-leaves c = λ lacking.
    let r : Records = records_of_sides c.args.sides.now in
    let on : FlowSupport = flow_support c.args.deeds.now in
    let (k, at) = c.requires.there in
    let says = subst (λ (b : Bool). Judged r (Holds (condition_of (sender_at r on) k)) c.args.sides.now.input.now c.args.output.now (Ok b)) c.if-holds.false (c.in_ok-holds.ensures.says k at) in
    lacks_leaves r on c.args.condition c.args.holding lacking c.args.more.now c.behind_skip.result.now k c.args.sides.now.input.now c.args.output.now at says c.behind_skip.ensures.value

pub returns-clause-spends : goal.returns-clause-spends
returns-clause-spends c = λ lacking.
    let r : Records = records_of_sides c.args.sides.now in
    let on : FlowSupport = flow_support c.args.deeds.now in
    let (k, at) = c.requires.there in
    let says = subst (λ (b : Bool). Judged r (Holds (condition_of (sender_at r on) k)) c.args.sides.now.input.now c.args.output.now (Ok b)) c.if-holds.false (c.in_ok-holds.ensures.says k at) in
    lacks_spends r on c.args.condition c.args.holding lacking c.args.more.now c.behind_skip.result.now k c.args.sides.now.input.now c.args.output.now c.args.scratch.now c.condition_says.new.scratch at says
    c.behind_skip.ensures.value c.in_ok-holds.ensures.reads
