use Rattle.std.proofs.Common.{◌≡◌}
use Rattle.cob_copybook_tree.specs.Nodes.{forest}
use Rattle.cob_back_moves.proofs.SameLemmas.{Both, left}
use Rattle.cob_back_moves.proofs.same_entries.+entries.Given as goal

abbrev pub invariant-are_same_entries-loop-entry : goal.invariant-are_same_entries-loop-entry
invariant-are_same_entries-loop-entry l = Both (left l.entries l.entry-index ≡ forest l.rest) (forest l.entries ≡ forest l.others)
