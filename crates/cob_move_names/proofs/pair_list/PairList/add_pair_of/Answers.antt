use Rattle.std.proofs.lemmas.Result.{err_from_is_err_and}
use Rattle.cob_move_names.specs.PlainPairs.{pairs, subordinate, subordinates_listed}
use Rattle.cob_move_names.proofs.OnceLemmas.{more_twice}
use Rattle.cob_move_names.proofs.pair_list.PairList.add_pair_of.Goals as goal

pub returns-in_err-to-clause-fault : goal.returns-in_err-to-clause-fault
returns-in_err-to-clause-fault c =
    let p = err_from_is_err_and c.from_residual.result c.from_residual.ensures.1 in
    rw (p.1, p.2)
    (more_twice c.in_err-to.field-0.0 (pairs c.args.self.now.list.items) (subordinate c.args.from.now) (subordinates_listed c.args.partners.now.entries.items) c.in_err-to.ensures.fault)
