use Rattle.std.proofs.Common.{◌≡◌, ◌+◌, ℕ, List, ◌++◌, length, take}
use Rattle.cob_copybook_tree.specs.Nodes.{forest}
use Rattle.cob_copybook_tree.specs.Lengths.{greatest_number, sum_of}
use Rattle.cob_layout.proofs.ForestLemmas.{left}
use Rattle.cob_move_initial.specs.Begun.{AreBegun}
use Rattle.cob_move_initial.specs.Ready.{HaveInitialStorage}
use Rattle.cob_move_initial.proofs.storage.+entries.Given as goal

abbrev pub invariant-write_entries-loop-entry : goal.invariant-write_entries-loop-entry
invariant-write_entries-loop-entry l =
    let rest = left l.entries l.entry-index in
    record {
      ready : HaveInitialStorage rest;
      room : l.at + sum_of greatest_number rest ≡ length l.bytes;
      same : length l.bytes ≡ length l.fn.bytes;
      begun : (behind : List ℕ) → AreBegun rest behind → AreBegun (forest l.entries) (take l.at l.bytes ++ behind);
    }
