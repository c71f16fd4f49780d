use Rattle.std.proofs.Common.{sym, subst, arith, refl, ◌∙◌}
use Rattle.cob_copybook_rules.specs.Filled.{AreFilled}
use Rattle.cob_copybook_rules.proofs.Branches.{forest_from}
use Rattle.cob_copybook_rules.proofs.filled.+unfilled.Goals as goal

pub returns-then-not-is_filled-clause-must : goal.returns-then-not-is_filled-clause-must
returns-then-not-is_filled-clause-must t c = λ h.
    let at = forest_from c.args.branches.now c.loop-branch.branch-index c.branch-item.result (omega arith) c.branch-item.is in
    let all = subst AreFilled at (c.loop-branch.invariant.whole h) in
    sym (c.is_filled.ensures.must (rw c.as_slice.ensures.value all.0)) ∙ c.if-not-is_filled.true

pub returns-in-Some-clause-must : goal.returns-in-Some-clause-must
returns-in-Some-clause-must t c = λ h.
    let at = forest_from c.args.branches.now c.loop-branch.branch-index c.branch-item.result (omega arith) c.branch-item.is in
    let all = subst AreFilled at (c.loop-branch.invariant.whole h) in
    c.in-Some.ensures.must (rw c.as_slice-in-loop-branch.ensures.value all.1)

pub loop-branch-preserved : goal.loop-branch-preserved
loop-branch-preserved t c =
    let at = forest_from c.args.branches.now c.loop-branch.branch-index c.branch-item.result (omega arith) c.branch-item.is in
    record {
      left = λ h. c.loop-branch.invariant.left (subst AreFilled (sym at) (
        rw (sym c.as_slice.ensures.value) (c.is_filled.ensures.yes c.if-not-is_filled.false),
        rw (sym c.as_slice-in-loop-branch.ensures.value) (c.in_default.ensures.fine refl),
        h,
      ));
      whole = λ h. (subst AreFilled at (c.loop-branch.invariant.whole h)).2;
    }
