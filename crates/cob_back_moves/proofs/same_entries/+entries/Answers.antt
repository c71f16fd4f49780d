use Rattle.std.proofs.Common.{◌≡◌, List, rules, subst, arith}
use Rattle.std.specs.Bool.{Decides}
use Rattle.std.proofs.lemmas.Bool.Decides.{nat_tests}
use Rattle.cob_copybook_tree.specs.declared.node.Node.{Node}
use Rattle.cob_copybook_tree.specs.declared.node.Node.TheViews.{out-Node}
use Rattle.cob_copybook_tree.specs.Nodes.{forest}
use Rattle.cob_back_moves.proofs.SameLemmas.{at_end, same_entry}
use Rattle.cob_back_moves.proofs.same_entries.+entries.Goals as goal

pub are_same_entries-returns : goal.are_same_entries-returns
are_same_entries-returns t c =
    at_end c.args.entries.now c.loop-entry.entry-index c.loop-entry.rest.now c.is_empty.result (forest c.args.entries.now ≡ forest c.args.others.now)
    (omega (arith, c.loop-entry-test.false)) (λ is. grind (arith, nat_tests, is, c.is_empty.ensures)) (λ is. grind (arith, nat_tests, is, c.is_empty.ensures)) c.loop-entry.invariant

pub is_same_entry-returns : goal.is_same_entry-returns
is_same_entry-returns t c =
    let n = c.args.entry.now in
    let m = c.args.other.now in
    let same = c.are_same_entries.result in
    let beneath : Decides same (forest (out-Node n).children.items ≡ forest (out-Node m).children.items) =
    subst (λ (xs : List Node). Decides same (forest xs ≡ forest (out-Node m).children.items)) c.as_slice.ensures.value
    (subst (λ (ys : List Node). Decides same (forest c.as_slice.result.now ≡ forest ys)) c.as_slice-2.ensures.value c.are_same_entries.ensures) in
    same_entry n m same (c.is_same_name.ensures.0 (search rules)) (c.is_same_but_name.ensures.0 (search rules)) beneath
