-- Fewer entries stand beneath an entry at each step.
use Rattle.cob_copybook_tree.specs.Forests.{entries_in}
use Rattle.cob_copybook_tree.specs.Nodes.{node}
use Rattle.cob_report_show.proofs.entries.+name_beneath.Given as goal

abbrev pub decreases-name_beneath : goal.decreases-name_beneath
decreases-name_beneath l = entries_in (node l.entry.now).beneath
