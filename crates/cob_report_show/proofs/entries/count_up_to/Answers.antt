use Rattle.std.proofs.Common.{rules, leb, leb-false, leb-true, arith, ◌-◌}
use Rattle.std.proofs.lemmas.List.Sorted.{IsPartitionPoint-from_clause}
use Rattle.cob_copybook_tree.specs.Nodes.{node}
use Rattle.cob_report_show.proofs.EntryLemmas.{parted}
use Rattle.cob_report_show.proofs.entries.count_up_to.Goals as goal

pub returns-clause-last : goal.returns-clause-last
returns-clause-last c =
    let entries = parted c.args.entries.now c.requires.numbered.0 c.args.number c.requires.numbered.1 in
    let point = IsPartitionPoint-from_clause (λ n. leb (node n).top.number c.args.number) _ _ c.partition_point.ensures.partitioned entries (λ a r q k. search rules) in
    λ n some. leb-true _ _ (point.0 (c.partition_point.result - 1) n (omega arith) (omega (arith, some)))

pub returns-clause-next : goal.returns-clause-next
returns-clause-next c =
    let entries = parted c.args.entries.now c.requires.numbered.0 c.args.number c.requires.numbered.1 in
    let point = IsPartitionPoint-from_clause (λ n. leb (node n).top.number c.args.number) _ _ c.partition_point.ensures.partitioned entries (λ a r q k. search rules) in
    λ n low. leb-false _ _ (point.1 c.partition_point.result n (omega arith) low)
