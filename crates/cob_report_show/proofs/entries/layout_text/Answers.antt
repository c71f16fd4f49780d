use Rattle.cob_copybook_conditions.specs.Names.{plain_condition_names}
use Rattle.cob_copybook_tree.specs.Nodes.{tree_of}
use Rattle.cob_report_show.proofs.EntryLemmas.{lists_part}
use Rattle.cob_report_show.proofs.entries.layout_text.Goals as goal

pub returns-in-Err-clause-lists : goal.returns-in-Err-clause-lists
returns-in-Err-clause-lists g c =
    lists_part c.args.layout.now (tree_of c.root.result.now) (plain_condition_names c.args.names.now) c.in-Err.fault c.fault_after.result c.put_entries.new.sent _ _ c.root.ensures.tree
    c.in-Err.ensures.lines (c.fault_after.ensures.taken c.in-Err.ensures.kind)
