use Rattle.std.proofs.Common.{◌≡◌, List, rules, subst}
use Rattle.std.specs.Bool.{Decides}
use Rattle.cob_copybook_tree.specs.declared.node.Node.{Node}
use Rattle.cob_copybook_tree.specs.declared.node.Node.TheViews.{out-Node}
use Rattle.cob_copybook_tree.specs.Nodes.{forest}
use Rattle.cob_back_moves.proofs.SameLemmas.{same_record}
use Rattle.cob_back_moves.proofs.same_entries.is_same_record.Goals as goal

pub returns : goal.returns
returns c =
    let n = c.args.entry.now in
    let m = c.args.other.now in
    let same = c.are_same_entries.result in
    let beneath : Decides same (forest (out-Node n).children.items ≡ forest (out-Node m).children.items) =
    subst (λ (xs : List Node). Decides same (forest xs ≡ forest (out-Node m).children.items)) c.as_slice.ensures.value
    (subst (λ (ys : List Node). Decides same (forest c.as_slice.result.now ≡ forest ys)) c.as_slice-2.ensures.value c.are_same_entries.ensures) in
    same_record n m same (c.is_same_told_name.ensures.0 (search rules)) (c.is_same_but_name.ensures.0 (search rules)) beneath
