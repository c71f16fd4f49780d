use Rattle.std.proofs.Common.{sym, subst, arith, refl}
use Rattle.cob_copybook_rules.specs.Usages.{AreUsages}
use Rattle.cob_copybook_rules.proofs.Branches.{forest_from}
use Rattle.cob_copybook_rules.proofs.usages.+wrong_usage.Goals as goal

pub returns-in-Some-clause-must : goal.returns-in-Some-clause-must
returns-in-Some-clause-must t c = λ h.
    let at = forest_from c.args.branches.now c.loop-branch.branch-index c.branch-item.result (omega arith) c.branch-item.is in
    let all = subst (AreUsages c.args.above) at (c.loop-branch.invariant.whole h) in
    c.in-Some.ensures.must (rw (c.as_slice.ensures.value, c.inherited-usage.ensures) all.2)

pub loop-branch-preserved : goal.loop-branch-preserved
loop-branch-preserved t c =
    let at = forest_from c.args.branches.now c.loop-branch.branch-index c.branch-item.result (omega arith) c.branch-item.is in
    record {
      left = λ h. c.loop-branch.invariant.left (subst (AreUsages c.args.above) (sym at) (
        c.agree.ensures.yes c.if-not-agree.false,
        rw (sym c.inherited-usage.ensures) (c.may_have.ensures.yes c.if-not-may_have.false),
        rw (sym c.as_slice.ensures.value, sym c.inherited-usage.ensures) (c.in_default.ensures.fine refl),
        h,
      ));
      whole = λ h. (subst (AreUsages c.args.above) at (c.loop-branch.invariant.whole h)).3;
    }
