use Rattle.std.proofs.Common.{◌≡◌, ◌++◌, length, map}
use Rattle.cob_copybook_tree.specs.Nodes.{tree_of}
use Rattle.cob_copybook_names.specs.Listed.{texts}
use Rattle.cob_layout_places.proofs.ForestLemmas.{left}
use Rattle.cob_layout.specs.Sound.{AreNested}
use Rattle.cob_report_partners.specs.Entries.{draft_entries, listed_bearer, seen_setting, seen_source}
use Rattle.cob_report_partners.proofs.entries.+list_tree.Given as goal

abbrev pub decreases-list_tree : goal.decreases-list_tree
decreases-list_tree l = goal.size-list_tree l

abbrev pub invariant-loop-child : goal.invariant-loop-child
invariant-loop-child l =
    let rest = left l.child-items l.child-index in
    let source = seen_source l.source in
    record {
      nested : AreNested (length l.inner.tables.items) rest;
      listed : map listed_bearer l.listed.items ++ draft_entries source (texts l.beneath.items) (seen_setting l.inner) rest
          ≡ map listed_bearer l.fn.listed.items ++ draft_entries source (texts l.above) (seen_setting l.outer) (tree_of l.entry);
    }
