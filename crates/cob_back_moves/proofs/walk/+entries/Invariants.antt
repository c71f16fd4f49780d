use Rattle.std.proofs.Common.{◌≡◌, ◌+◌, length}
use Rattle.cob_copybook_tree.specs.Nodes.{node, forest}
use Rattle.cob_layout_places.specs.Lengths.{AreLeaves}
use Rattle.cob_layout.specs.Sound.{AreNested}
use Rattle.cob_layout_places.proofs.ForestLemmas.{left}
use Rattle.cob_back_moves.specs.Brought.{IsFine}
use Rattle.cob_back_moves.specs.Walk.{AllFine, HasItem}
use Rattle.cob_back_moves.proofs.WalkLemmas.{FineBelow, IsWithin}
use Rattle.cob_back_moves.proofs.walk.+entries.Given as goal

abbrev pub invariant-lost_in_entries-loop-entry : goal.invariant-lost_in_entries-loop-entry
invariant-lost_in_entries-loop-entry l =
    let rest = left l.entries l.entry-index in
    let above = l.fn.subscripts.items in
    record {
      nested : AreNested (length above) rest;
      leaves : AreLeaves rest;
      same : l.subscripts.items ≡ l.fn.subscripts.items;
      goes : AllFine (IsFine l.there l.back) (λ r rs i. HasItem r rs i rest) above → AllFine (IsFine l.there l.back) (λ r rs i. HasItem r rs i (forest l.entries)) above;
      within : IsWithin rest (forest l.entries);
    }

abbrev pub invariant-lost_in_entry-loop-done : goal.invariant-lost_in_entry-loop-done
invariant-lost_in_entry-loop-done l = record {
  same : l.subscripts.items ≡ l.fn.subscripts.items;
  fine : FineBelow (IsFine l.there l.back) (node l.entry).top (node l.entry).beneath l.fn.subscripts.items (l.done + 1);
}
