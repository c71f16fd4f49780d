use Rattle.std.proofs.Common.{sym, subst, ap, arith}
use Rattle.std.proofs.lemmas.List.{drop_all}
use Rattle.cob_copybook_tree.specs.Nodes.{node, tree_of}
use Rattle.cob_copybook_tree.specs.Lengths.{greatest_number, sum_of}
use Rattle.cob_copybook.specs.Books.{IsRecordDescription}
use Rattle.cob_move_initial.proofs.AtPlaceLemmas.{record_begun}
use Rattle.cob_move_initial.proofs.storage.initial.Goals as goal

pub returns-clause-initial : goal.returns-clause-initial
returns-clause-initial c =
    let sound = c.records_are_sound.ensures (tree_of c.root.result.now) (subst IsRecordDescription (sym c.root.ensures.tree) c.root.ensures.record) in
    let end = drop_all c.from.result c.args.bytes.now (omega (arith, ap (sum_of greatest_number) c.requires.same)) in
    (record_begun (node c.root.result.now).top (node c.root.result.now).beneath _ _ _ sound c.root.ensures.tree c.write_elements.ensures.holds end).initial

pub returns-clause-places : goal.returns-clause-places
returns-clause-places c =
    let sound = c.records_are_sound.ensures (tree_of c.root.result.now) (subst IsRecordDescription (sym c.root.ensures.tree) c.root.ensures.record) in
    let end = drop_all c.from.result c.args.bytes.now (omega (arith, ap (sum_of greatest_number) c.requires.same)) in
    (record_begun (node c.root.result.now).top (node c.root.result.now).beneath _ _ _ sound c.root.ensures.tree c.write_elements.ensures.holds end).places
