use Rattle.std.proofs.Common.{List, sym, subst}
use Rattle.cob_copybook_tree.specs.declared.node.Node.{Node}
use Rattle.cob_copybook_tree.specs.Nodes.{forest}
use Rattle.cob_copybook.specs.Bytes.{TakeBytes}
use Rattle.cob_layout.proofs.CopyLemmas.{copy_is, next_copied}
use Rattle.cob_layout.proofs.ByteLemmas.{copy_has, have_push}
use Rattle.cob_layout.proofs.copy.+copied.Goals as goal

pub loop-child-preserved : goal.loop-child-preserved
loop-child-preserved t c =
    let copies = c.loop-child.children.items in
    let made = c.push.new.self.items in
    let items = c.in_ok-push.ensures.items in (
      next_copied copies made c.deref-child-items.result.now c.loop-child.child-index c.child-item.result c.in_ok-copy.copy c.loop-child-test.true c.child-item.is c.in_ok-copy.ensures.same items c.loop-child.invariant.0,
      subst (λ (ns : List Node). TakeBytes (forest ns)) (sym items) (have_push copies c.in_ok-copy.copy c.loop-child.invariant.1 c.in_ok-copy.ensures.bytes),
    )

pub returns-clause-same : goal.returns-clause-same
returns-clause-same t c =
    copy_is c.args.entry.now c.same_entry.result c.deref-child-items.result.now c.loop-child.children.items c.loop-child.child-index c.same_entry.ensures.same
    c.loop-child.invariant.0 c.loop-child-test.false c.deref-child-items.ensures.value

pub returns-clause-bytes : goal.returns-clause-bytes
returns-clause-bytes t c =
    copy_has c.same_entry.result c.args.entry.now c.loop-child.children.items c.same_entry.ensures.same c.same_entry.ensures.byte c.loop-child.invariant.1
