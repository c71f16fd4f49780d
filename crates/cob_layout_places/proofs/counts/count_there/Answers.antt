use Rattle.std.proofs.Common.{[]}
use Rattle.cob_copybook_tree.specs.Nodes.{tree_of}
use Rattle.cob_layout_places.specs.Lengths.{times}
use Rattle.cob_layout_places.specs.Places.{place_of}
use Rattle.cob_layout_places.specs.Counts.{kind_in}
use Rattle.cob_layout_places.proofs.CountLemmas.{pairs_in, found_size, counted_ok, counted_err}
use Rattle.cob_layout_places.proofs.counts.count_there.Goals as goal

pub count_at-requires-clause-long : goal.count_at-requires-clause-long
count_at-requires-clause-long c =
    let t = tree_of c.args.root.now in
    let counts = c.requires.stands.0 in
    found_size (kind_in c.args.table.count t) (place_of (times counts) c.args.table.count t 0 0 []) c.in-Some.item.now c.args.found
    (pairs_in (times counts) c.args.table.count t 0 0 []) c.in-Some.ensures.found c.requires.stands.1

pub returns-in-Some-clause-ok : goal.returns-in-Some-clause-ok
returns-in-Some-clause-ok c = counted_ok (tree_of c.args.root.now) c.args.bytes.now c.args.table c.in-Some.item.now c.args.found c.count_at.result c.in-Some.ensures.found c.count_at.ensures.ok

pub returns-in-Some-clause-err : goal.returns-in-Some-clause-err
returns-in-Some-clause-err c = counted_err (tree_of c.args.root.now) c.args.bytes.now c.args.table c.in-Some.item.now c.args.found c.count_at.result c.in-Some.ensures.found c.count_at.ensures.err
