use Rattle.std.proofs.Common.{rules, [], ◌∷◌, false}
use Rattle.cob_copybook_tree.specs.Forests.{flat}
use Rattle.cob_copybook_tree.specs.Branches.{forest_of}
use Rattle.cob_copybook_names.specs.Entries.{bearers}
use Rattle.cob_copybook_names.proofs.Counting.{only_counts}
use Rattle.cob_copybook_names.proofs.count.counts.Goals as goal

pub returns-clause-only : goal.returns-clause-only
returns-clause-only c = λ cs x. only_counts (λ v. v.items) (bearers [] false 0 (forest_of (c.args.root.now ∷ []))) (flat (forest_of (c.args.root.now ∷ []))) c.counts_of.result (search rules) (search rules) cs x
