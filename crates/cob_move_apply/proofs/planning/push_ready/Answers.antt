use Rattle.std.proofs.Common.{[], ◌∷◌}
use Rattle.std.proofs.lemmas.Result.{on_ok_weaker}
use Rattle.cob_move_apply.specs.Planned.{meant, part_alone, records_between}
use Rattle.cob_move_apply.specs.Steps.{support_of}
use Rattle.cob_move_apply.proofs.PlanLemmas.{grows_same}
use Rattle.cob_move_apply.proofs.planning.push_ready.Goals as goal

pub push_copy-requires : goal.push_copy-requires
push_copy-requires c = let (copied, short) = rw c.in-Copy.is at c.requires.ready in record { short = short }

pub returns-in-Copy-clause-gains : goal.returns-in-Copy-clause-gains
returns-in-Copy-clause-gains c =
    let (copied, short) = rw c.in-Copy.is at c.requires.ready in
    on_ok_weaker c.push_copy.result
    (λ so x. (
      grows_same (support_of c.args.plan.now),
      λ parts are. so x (records_between c.args.both.now) c.args.given.now (support_of c.args.plan.now) parts (meant x (records_between c.args.both.now) c.args.part.now ∷ []) are (copied x),
    ))
    c.push_copy.ensures.steps

pub returns-in-Prepared-clause-gains : goal.returns-in-Prepared-clause-gains
returns-in-Prepared-clause-gains c =
    let ready = rw c.in-Prepared.is at c.requires.ready in
    on_ok_weaker c.push_prepared.result (λ so x. so x (records_between c.args.both.now) c.args.given.now (part_alone c.args.both.now c.args.part.now) ready) c.push_prepared.ensures.gains

pub push_pictured-requires-clause-pictured : goal.push_pictured-requires-clause-pictured
push_pictured-requires-clause-pictured c = rw c.in-Pictured.is at c.requires.ready

pub returns-in-Constant-clause-gains : goal.returns-in-Constant-clause-gains
returns-in-Constant-clause-gains c =
    let ready = rw c.in-Constant.is at c.requires.ready in
    on_ok_weaker c.push_constant.result (λ so x. so x (records_between c.args.both.now) c.args.given.now (part_alone c.args.both.now c.args.part.now) ready) c.push_constant.ensures.gains

pub returns-in-Located-clause-gains : goal.returns-in-Located-clause-gains
returns-in-Located-clause-gains c =
    let ready = rw c.in-Located.is at c.requires.ready in
    on_ok_weaker c.push_located.result (λ so x. so x (records_between c.args.both.now) c.args.given.now (part_alone c.args.both.now c.args.part.now) ready) c.push_located.ensures.gains

pub returns-in-LocatedConstant-clause-gains : goal.returns-in-LocatedConstant-clause-gains
returns-in-LocatedConstant-clause-gains c =
    let ready = rw c.in-LocatedConstant.is at c.requires.ready in
    on_ok_weaker c.push_located_constant.result (λ so x. so x (records_between c.args.both.now) c.args.given.now (part_alone c.args.both.now c.args.part.now) ready) c.push_located_constant.ensures.gains

pub returns-in-Within-clause-gains : goal.returns-in-Within-clause-gains
returns-in-Within-clause-gains c =
    let ready = rw c.in-Within.is at c.requires.ready in
    on_ok_weaker c.push_within.result (λ so x. so x (records_between c.args.both.now) c.args.given.now (part_alone c.args.both.now c.args.part.now) ready) c.push_within.ensures.gains

pub returns-in-LocatedWithin-clause-gains : goal.returns-in-LocatedWithin-clause-gains
returns-in-LocatedWithin-clause-gains c =
    let ready = rw c.in-LocatedWithin.is at c.requires.ready in
    on_ok_weaker c.push_located_within.result (λ so x. so x (records_between c.args.both.now) c.args.given.now (part_alone c.args.both.now c.args.part.now) ready) c.push_located_within.ensures.gains
