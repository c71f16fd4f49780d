use Rattle.std.proofs.Common.{refl}
use Rattle.std.proofs.lemmas.Result.{on_ok_weaker}
use Rattle.cob_move_apply.specs.Planned.{records_between}
use Rattle.cob_move_apply.proofs.InLemmas.{gains_in_pair, in_pair, more_in_pair}
use Rattle.cob_move_apply.proofs.planning.push_pair.Goals as goal

pub push_single-requires-clause-part : goal.push_single-requires-clause-part
push_single-requires-clause-part c =
    in_pair _ _ _ c.args.group.now c.index-pair.result.now c.entry_below.result c.entry_below-receiver.result c.requires.at c.requires.below c.index-pair.ensures c.requires.legal
    c.entry_below.ensures c.entry_below-receiver.ensures refl c.from_ref.ensures.value

pub returns-clause-more : goal.returns-clause-more
returns-clause-more c =
    on_ok_weaker c.push_single.result
    (λ so x. more_in_pair x (records_between c.args.both.now) c.args.group.now c.args.first c.index-pair.result.now c.entry_below.result c.entry_below-receiver.result c.from_ref.result.now
    c.args.plan.now.steps.items c.push_single.new.plan.steps.items c.requires.below c.index-pair.ensures c.entry_below.ensures c.entry_below-receiver.ensures c.from_ref.ensures.value (so x))
    c.push_single.ensures.more

pub returns-clause-gains : goal.returns-clause-gains
returns-clause-gains c =
    on_ok_weaker c.push_single.result
    (λ so x. gains_in_pair x (records_between c.args.both.now) c.args.given.now c.args.group.now c.args.first c.index-pair.result.now c.entry_below.result c.entry_below-receiver.result c.from_ref.result.now
    c.args.plan.now c.push_single.new.plan c.requires.below c.index-pair.ensures c.entry_below.ensures c.entry_below-receiver.ensures c.from_ref.ensures.value (so x))
    c.push_single.ensures.gains
