use Rattle.std.proofs.Common.{sym, subst, arith, refl}
use Rattle.cob_copybook_rules.specs.Placements.{ArePlaced}
use Rattle.cob_copybook_rules.proofs.Branches.{forest_from}
use Rattle.cob_copybook_rules.proofs.placements.+wrong_placement.Goals as goal

pub returns-in-Some-clause-must : goal.returns-in-Some-clause-must
returns-in-Some-clause-must t c = λ h.
    let at = forest_from c.args.branches.now c.loop-branch.branch-index c.branch-item.result (omega arith) c.branch-item.is in
    let all = subst (ArePlaced c.args.above) at (c.loop-branch.invariant.whole h) in
    c.in-Some.ensures.must (rw (c.as_slice.ensures.value, c.inherited-usage.ensures) all.2)

pub loop-branch-preserved : goal.loop-branch-preserved
loop-branch-preserved t c =
    let at = forest_from c.args.branches.now c.loop-branch.branch-index c.branch-item.result (omega arith) c.branch-item.is in
    record {
      left = λ h. c.loop-branch.invariant.left (subst (ArePlaced c.args.above) (sym at) (
        c.may_be_justified.ensures.yes c.if-not-may_be_justified.false,
        rw (sym c.inherited-usage.ensures, sym c.unwrap_or.ensures) (c.may_be_blank.ensures.yes c.if-not-may_be_blank.false),
        rw (sym c.as_slice.ensures.value, sym c.inherited-usage.ensures) (c.in_default.ensures.fine refl),
        h,
      ));
      whole = λ h. (subst (ArePlaced c.args.above) at (c.loop-branch.invariant.whole h)).3;
    }
