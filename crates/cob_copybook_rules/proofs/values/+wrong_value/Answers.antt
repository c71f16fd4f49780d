use Rattle.std.proofs.Common.{◌≡◌, sym, subst, arith, refl}
use Rattle.cob_copybook_tree.specs.Nodes.{node, forest}
use Rattle.cob_copybook_rules.specs.Values.{AreValues}
use Rattle.cob_copybook_rules.proofs.NodeLemmas.{forest_at, beneath_out}
use Rattle.cob_copybook_rules.proofs.values.+wrong_value.Goals as goal

pub returns-in-Some-clause-must : goal.returns-in-Some-clause-must
returns-in-Some-clause-must t c = λ h.
    let n = c.entry-item.result in
    let at = forest_at c.args.entries.now c.loop-entry.entry-index n (omega arith) c.entry-item.is in
    let children : (node n).beneath ≡ forest c.as_slice.result.now = rw c.as_slice.ensures.value (beneath_out n) in
    let all = subst (AreValues c.args.redefined c.args.valued) at (c.loop-entry.invariant.whole h) in
    c.in-Some.ensures.must (rw (c.is_redefined-redefines.ensures, c.is_valued-values.ensures, sym children) all.1)

pub loop-entry-preserved : goal.loop-entry-preserved
loop-entry-preserved t c =
    let n = c.entry-item.result in
    let at = forest_at c.args.entries.now c.loop-entry.entry-index n (omega arith) c.entry-item.is in
    let children : (node n).beneath ≡ forest c.as_slice.result.now = rw c.as_slice.ensures.value (beneath_out n) in
    record {
      left = λ h. c.loop-entry.invariant.left (subst (AreValues c.args.redefined c.args.valued) (sym at) (
        rw (sym c.is_redefined-redefines.ensures) (c.may_have_value.ensures.yes c.if-not-may_have_value.false),
        rw (children, sym c.is_redefined-redefines.ensures, sym c.is_valued-values.ensures) (c.in_default.ensures.fine refl),
        h,
      ));
      whole = λ h. (subst (AreValues c.args.redefined c.args.valued) at (c.loop-entry.invariant.whole h)).2;
    }
