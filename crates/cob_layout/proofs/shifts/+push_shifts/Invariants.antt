use Rattle.std.proofs.Common.{◌≡◌, ◌+◌, ◌∷◌, ◌++◌, []}
use Rattle.cob_layout_places.proofs.ForestLemmas.{left, below}
use Rattle.cob_layout.specs.Shifts.{grow_in, growths_from, shift_of, shifts_from}
use Rattle.cob_layout.proofs.shifts.+push_shifts.Given as goal

abbrev pub decreases-push_shifts : goal.decreases-push_shifts
decreases-push_shifts l = goal.size-push_shifts l

abbrev pub invariant-loop-child : goal.invariant-loop-child
invariant-loop-child l =
    let rest = left l.child-items l.child-index in
    record {
      many : l.through + grow_in rest ≡ l.fn.before + grow_in (below l.entry);
      same : l.shifts.items ++ shifts_from l.through rest
          ≡ (l.fn.shifts.items ++ shift_of l.fn.before l.fn.before l.most ∷ []) ++ shifts_from l.fn.before (below l.entry);
      grown : l.growths.items ++ growths_from l.least l.through rest ≡ l.fn.growths.items ++ growths_from l.least l.fn.before (below l.entry);
    }
