use Rattle.std.proofs.Common.{map, refl}
use Rattle.std.proofs.lemmas.Result.{err_from_is_err_and}
use Rattle.cob_move.specs.Between.{numbers_of}
use Rattle.cob_move.specs.Refusals.{BreaksBetween}
use Rattle.cob_move_names.specs.Between.{ends}
use Rattle.cob_move.proofs.CorrespondingLemmas.{allowed_more, numbers_more, one_broken}
use Rattle.cob_move.proofs.SomeLemmas.{some_later}
use Rattle.cob_move.proofs.corresponding.judged_numbers.Goals as goal

pub returns-in_err-judge_pair-clause-fault : goal.returns-in_err-judge_pair-clause-fault
returns-in_err-judge_pair-clause-fault c =
    let p = err_from_is_err_and c.from_residual-in_err-judge_pair.result c.from_residual-in_err-judge_pair.ensures.1 in
    rw (p.1, p.2)
    (one_broken c.in_err-judge_pair.field-0.0 c.args.list.now c.loop-one.one-index c.one-item.result c.loop-one-test.true c.one-item.is c.loop-one.invariant.broken c.in_err-judge_pair.ensures.fault)

pub loop-one-preserved : goal.loop-one-preserved
loop-one-preserved c = record {
  so_far = numbers_more (map numbers_of (map ends c.args.list.now)) c.loop-one.numbers.items c.push.new.self.items c.args.list.now c.loop-one.one-index c.one-item.result
      (numbers_of (ends c.one-item.result)) c.loop-one-test.true c.one-item.is refl c.in_ok-push.ensures.items c.loop-one.invariant.so_far;
  allowed = allowed_more c.args.list.now c.loop-one.one-index c.one-item.result c.loop-one-test.true c.one-item.is c.in_ok-judge_pair.ensures.allowed c.loop-one.invariant.allowed;
  broken = λ r h. c.loop-one.invariant.broken r (some_later ends (BreaksBetween r) c.args.list.now c.loop-one.one-index c.one-item.result c.loop-one-test.true c.one-item.is h);
}
