use Rattle.std.proofs.Common.{arith, rules, take, ◌++◌}
use Rattle.cob_records.proofs.Passing.{counts_take}
use Rattle.cob_records.proofs.passed.Passed.add.Goals as goal

pub loop-at-preserved : goal.loop-at-preserved
loop-at-preserved c =
    let new = c.pass-at.new.self in record {
      within = omega (arith, c.pass-at.ensures.within);
      passed = λ bytes h. counts_take new.form new.greatest new.place new.records new.bytes c.loop-at.at c.pass-at.result bytes c.args.piece.now
          (c.pass-at.ensures.passed (bytes ++ take c.loop-at.at c.args.piece.now) (c.loop-at.invariant.passed bytes h));
      form = search rules;
      greatest = search rules;
    }
