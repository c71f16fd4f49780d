use Rattle.std.proofs.Common.{map, sym, ap, subst, ◌∙◌}
use Rattle.cob_copybook_entry.specs.Described.{plain_entry}
use Rattle.cob_copybook_tree.specs.Forests.{flat, IsTree}
use Rattle.cob_copybook_tree.specs.Branches.{branch, forest_of, level_of}
use Rattle.cob_copybook_tree.proofs.StandsForLemmas.{stands_for}
use Rattle.cob_copybook_tree.proofs.planting.build_tree.Goals as goal

pub returns : goal.returns
returns c =
    let items = ap forest_of c.in-Some.ensures.items in
    stands_for (map plain_entry c.args.entries.items) (branch c.in-Some.root).top (branch c.in-Some.root).beneath (forest_of c.pop_front.new.self.items) c.requires
    (ap flat (sym items) ∙ c.in_ok-branches.ensures.entries) (subst (IsTree level_of) items c.in_ok-branches.ensures.tree)
