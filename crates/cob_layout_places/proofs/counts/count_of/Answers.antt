use Rattle.std.proofs.Common.{[], sym, ◌∙◌}
use Rattle.cob_copybook_tree.specs.Nodes.{tree_of}
use Rattle.cob_layout_places.specs.Lengths.{times}
use Rattle.cob_layout_places.specs.Places.{place_of}
use Rattle.cob_layout_places.specs.Counts.{kind_in}
use Rattle.cob_layout_places.proofs.CountLemmas.{pairs_in, found_there, at_counts, fault_at_counts}
use Rattle.cob_layout_places.proofs.counts.count_of.Goals as goal

pub count_there-requires-clause-stands : goal.count_there-requires-clause-stands
count_there-requires-clause-stands c = (c.args.counts.now, sym c.seek.ensures ∙ c.in-Some.is)

pub returns-in-Some-clause-ok : goal.returns-in-Some-clause-ok
returns-in-Some-clause-ok c = at_counts (tree_of c.args.root.now) c.args.bytes.now c.args.table c.in-Some.found c.args.counts.now c.count_there.result (sym c.seek.ensures ∙ c.in-Some.is) c.count_there.ensures.ok

pub returns-in-Some-clause-err : goal.returns-in-Some-clause-err
returns-in-Some-clause-err c = fault_at_counts (tree_of c.args.root.now) c.args.bytes.now c.args.table c.in-Some.found c.args.counts.now c.count_there.result (sym c.seek.ensures ∙ c.in-Some.is) c.count_there.ensures.err

pub returns-in-None-clause-err : goal.returns-in-None-clause-err
returns-in-None-clause-err c =
    absurd (found_there (kind_in c.args.table.count (tree_of c.args.root.now)) (place_of (times c.args.counts.now) c.args.table.count (tree_of c.args.root.now) 0 0 []) c.requires.countable.item
    (pairs_in (times c.args.counts.now) c.args.table.count (tree_of c.args.root.now) 0 0 []) c.requires.countable.is (sym c.seek.ensures ∙ c.in-None.is))
