use Rattle.std.proofs.Common.{Bor, ap, sym, ◌∙◌}
use Rattle.cob_copybook_tree.specs.Forests.{Forest}
use Rattle.cob_copybook_tree.specs.declared.node.Node.{Node}
use Rattle.cob_copybook_tree.specs.Nodes.{Resolved, tree_of}
use Rattle.cob_move_data.specs.declared.operands.Side.{Side}
use Rattle.cob_move_names.specs.Between.{entries_of, pairs_below}
use Rattle.cob_move_names.specs.Pairs.{AreOnce}
use Rattle.cob_move_names.proofs.KeptLemmas.{moved}
use Rattle.cob_move_names.proofs.correspondences.Correspondences.between.Goals as goal

pub returns-in-In-clause-once : goal.returns-in-In-clause-once
returns-in-In-clause-once c =
    let s = c.args.self.now in
    let input : Forest Resolved = tree_of s.input.now in
    let output : Forest Resolved = tree_of s.output.now in
    moved (λ a b. AreOnce (pairs_below a b c.args.from c.args.to)) (tree_of s.from_input.groups.top.now) (entries_of input output c.args.side) (tree_of s.from_input.receiving.now) output
    (ap (λ (x : Bor Node). tree_of x.now) s.input_sends ∙ sym (ap (λ (d : Side). entries_of input output d) c.in-In.is))
    (ap (λ (x : Bor Node). tree_of x.now) s.input_to_output) c.list.ensures.once

pub returns-in-Out-clause-once : goal.returns-in-Out-clause-once
returns-in-Out-clause-once c =
    let s = c.args.self.now in
    let input : Forest Resolved = tree_of s.input.now in
    let output : Forest Resolved = tree_of s.output.now in
    moved (λ a b. AreOnce (pairs_below a b c.args.from c.args.to)) (tree_of s.from_output.groups.top.now) (entries_of input output c.args.side) (tree_of s.from_output.receiving.now) output
    (ap (λ (x : Bor Node). tree_of x.now) s.output_sends ∙ sym (ap (λ (d : Side). entries_of input output d) c.in-Out.is))
    (ap (λ (x : Bor Node). tree_of x.now) s.output_to_output) c.list-in-Out.ensures.once
