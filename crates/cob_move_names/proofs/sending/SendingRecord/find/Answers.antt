use Rattle.std.proofs.Common.{Bor, Global, Vec, sym, subst}
use Rattle.cob_copybook_tree.specs.declared.node.Node.{Node}
use Rattle.cob_copybook_tree.specs.Nodes.{tree_of}
use Rattle.cob_move_names.specs.declared.pair.EntryPair.{EntryPair}
use Rattle.cob_move_names.specs.Between.{AreFoundPairs, pairs_below}
use Rattle.cob_move_names.specs.PlainPairs.{subordinates_listed}
use Rattle.cob_move_names.proofs.KeptLemmas.{below_both, kept_on}
use Rattle.cob_move_names.proofs.sending.SendingRecord.find.Goals as goal

pub invariant_of-self : goal.invariant_of-self
invariant_of-self c = record {
  kept = λ a b x e. subst (λ (t : Bor Node). AreFoundPairs (pairs_below (tree_of t.now) (tree_of c.args.self.now.receiving.now) a b) x.items) (sym c.add.ensures.top) (c.args.self.now.kept a b x e);
}

pub invariant_of-self-in-Break-branch-2 : goal.invariant_of-self-in-Break-branch-2
invariant_of-self-in-Break-branch-2 c = record {
  kept = λ a b x e. subst (λ (t : Bor Node). AreFoundPairs (pairs_below (tree_of t.now) (tree_of c.args.self.now.receiving.now) a b) x.items) (sym c.add.ensures.top) (c.args.self.now.kept a b x e);
}

pub invariant_of-self-in-Break-branch-3 : goal.invariant_of-self-in-Break-branch-3
invariant_of-self-in-Break-branch-3 c = record {
  kept = λ a b x e. subst (λ (t : Bor Node). AreFoundPairs (pairs_below (tree_of t.now) (tree_of c.args.self.now.receiving.now) a b) x.items) (sym c.add.ensures.top) (c.args.self.now.kept a b x e);
}

pub invariant_of-self-2 : goal.invariant_of-self-2
invariant_of-self-2 c =
    let before = c.args.self.now in
    let found = below_both c.in_ok-list.list.items (subordinates_listed c.below.result.now.entries.items) (subordinates_listed c.below-2.result.now.entries.items)
    c.add.new.self.top before.groups.top c.add-2.new.self.top c.args.receivers.now.top before.receiving c.args.from c.args.to
    c.in_ok-list.ensures.found c.below.ensures c.below-2.ensures c.add.ensures.top c.add-2.ensures.top c.requires in
    record {
      kept = λ a b x e. subst (λ (t : Bor Node). AreFoundPairs (pairs_below (tree_of t.now) (tree_of before.receiving.now) a b) x.items) (sym c.add.ensures.top)
          (kept_on (λ from to (v : Vec EntryPair Global). AreFoundPairs (pairs_below (tree_of before.groups.top.now) (tree_of before.receiving.now) from to) v.items)
          before.lists c.insert.new.self c.args.from c.args.to c.in_ok-list.list c.insert.result c.insert.ensures.updates c.insert.ensures.err found before.kept a b x e);
    }
