use Rattle.std.proofs.Common.{◌++◌, ◌+◌, drop}
use Rattle.std.proofs.lemmas.Result.{err_from_is_err_and}
use Rattle.cob_move_names.specs.Pairs.{pairs_among, pairs_from}
use Rattle.cob_move_names.specs.PlainPairs.{subordinates_listed, pairs, subordinate}
use Rattle.cob_move_names.proofs.OnceLemmas.{twice_front}
use Rattle.cob_move_names.proofs.PairLemmas.{all_front, all_more}
use Rattle.cob_move_names.proofs.pairing.pairs_between.Goals as goal

pub returns-in_err-add_pair_of-clause-fault : goal.returns-in_err-add_pair_of-clause-fault
returns-in_err-add_pair_of-clause-fault c =
    let tos = subordinates_listed c.args.to.now.entries.items in
    let all = pairs_among (subordinates_listed c.args.from.now) tos in
    let so_far = pairs c.loop-sender.found.list.items in
    let p = err_from_is_err_and c.from_residual.result c.from_residual.ensures.1 in
    rw (p.1, p.2)
    (twice_front c.in_err-add_pair_of.field-0.0 (so_far ++ pairs_from tos (subordinate c.sender-item.result))
    (pairs_among (subordinates_listed (drop (c.loop-sender.sender-index + 1) c.args.from.now)) tos) all
    (all_front all so_far c.args.from.now tos c.loop-sender.sender-index c.sender-item.result c.loop-sender-test.true c.sender-item.is c.loop-sender.invariant)
    c.in_err-add_pair_of.ensures.fault)

pub loop-sender-preserved : goal.loop-sender-preserved
loop-sender-preserved c =
    let tos = subordinates_listed c.args.to.now.entries.items in
    all_more (pairs_among (subordinates_listed c.args.from.now) tos) (pairs c.loop-sender.found.list.items) (pairs c.add_pair_of.new.self.list.items)
    c.args.from.now tos c.loop-sender.sender-index c.sender-item.result c.loop-sender-test.true c.sender-item.is c.loop-sender.invariant c.in_ok-add_pair_of.ensures.added
