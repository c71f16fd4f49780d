use Rattle.std.proofs.Common.{sym, subst, arith, refl}
use Rattle.cob_copybook_rules.specs.Tables.{AreTables}
use Rattle.cob_copybook_rules.proofs.Branches.{forest_from}
use Rattle.cob_copybook_rules.proofs.tables.+wrong_table.Goals as goal

pub returns-in-Some-clause-must : goal.returns-in-Some-clause-must
returns-in-Some-clause-must t c = λ h.
    let at = forest_from c.args.branches.now c.loop-branch.branch-index c.branch-item.result (omega arith) c.branch-item.is in
    let all = subst (AreTables c.args.dimensions) at (c.loop-branch.invariant.whole h) in
    c.in-Some.ensures.must (rw (c.as_slice.ensures.value, c.dimension.ensures.value) all.3)

pub loop-branch-preserved : goal.loop-branch-preserved
loop-branch-preserved t c =
    let at = forest_from c.args.branches.now c.loop-branch.branch-index c.branch-item.result (omega arith) c.branch-item.is in
    record {
      left = λ h. c.loop-branch.invariant.left (subst (AreTables c.args.dimensions) (sym at) (
        c.is_possible.ensures.yes c.if-not-is_possible.false,
        c.is_no_record_table.ensures.yes c.if-not-is_no_record_table.false,
        omega (arith, c.dimension.ensures.value),
        rw (sym c.as_slice.ensures.value, sym c.dimension.ensures.value) (c.in_default.ensures.fine refl),
        h,
      ));
      whole = λ h. (subst (AreTables c.args.dimensions) at (c.loop-branch.invariant.whole h)).4;
    }
