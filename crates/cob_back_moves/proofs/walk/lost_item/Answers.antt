use Rattle.std.proofs.Common.{◌≡◌, true, rules}
use Rattle.std.specs.Prelude.{is_some}
use Rattle.std.proofs.lemmas.Bool.Decides.{not_from_Decides}
use Rattle.cob_copybook_tree.specs.declared.node.Node.TheViews.{out-Node}
use Rattle.cob_back_moves.specs.Brought.{IsFine}
use Rattle.cob_back_moves.proofs.WalkLemmas.{item_node, lost_item_node, unnamed_node}
use Rattle.cob_back_moves.proofs.walk.lost_item.Goals as goal

pub returns-then-is_none-clause-fine : goal.returns-then-is_none-clause-fine
returns-then-is_none-clause-fine c =
    unnamed_node (IsFine c.args.there.now c.args.back.now) c.args.entry.now c.args.subscripts.now c.args.item.now c.requires.kind c.requires.leaf (search rules)

pub returns-then-is_returned-clause-fine : goal.returns-then-is_returned-clause-fine
returns-then-is_returned-clause-fine c =
    item_node (IsFine c.args.there.now c.args.back.now) c.args.entry.now c.args.subscripts.now c.args.item.now c.requires.kind c.requires.leaf (c.is_returned.ensures.0 (search rules))

pub returns-clause-lost : goal.returns-clause-lost
returns-clause-lost c =
    let named : is_some (out-Node c.args.entry.now).name ≡ true = search rules in
    lost_item_node (IsFine c.args.there.now c.args.back.now) c.args.entry.now c.args.subscripts.now c.args.item.now c.requires.kind named (not_from_Decides c.is_returned.result c.is_returned.ensures (search rules))
