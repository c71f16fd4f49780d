use Rattle.std.proofs.Common.{sym, subst, arith, refl}
use Rattle.cob_copybook_rules.specs.Signs.{AreSigned}
use Rattle.cob_copybook_rules.proofs.Branches.{forest_from}
use Rattle.cob_copybook_rules.proofs.signs.+wrong_sign.Goals as goal

pub returns-in-Some-clause-must : goal.returns-in-Some-clause-must
returns-in-Some-clause-must t c = λ h.
    let at = forest_from c.args.branches.now c.loop-branch.branch-index c.branch-item.result (omega arith) c.branch-item.is in
    let all = subst (AreSigned c.args.above) at (c.loop-branch.invariant.whole h) in
    c.in-Some.ensures.must (rw (c.as_slice.ensures.value, c.inherited-usage.ensures) all.1)

pub loop-branch-preserved : goal.loop-branch-preserved
loop-branch-preserved t c =
    let at = forest_from c.args.branches.now c.loop-branch.branch-index c.branch-item.result (omega arith) c.branch-item.is in
    record {
      left = λ h. c.loop-branch.invariant.left (subst (AreSigned c.args.above) (sym at) (
        rw (sym c.inherited-usage.ensures) (c.may_be_signed.ensures.yes c.if-not-may_be_signed.false),
        rw (sym c.as_slice.ensures.value, sym c.inherited-usage.ensures) (c.in_default.ensures.fine refl),
        h,
      ));
      whole = λ h. (subst (AreSigned c.args.above) at (c.loop-branch.invariant.whole h)).2;
    }
