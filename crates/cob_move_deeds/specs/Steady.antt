-- Bounds that the moves between some marks leave alone.
use Rattle.std.specs.Prelude.{◌≡◌, ℕ, ◌<◌, ◌≤◌, List, length, Option, Some}
use Rattle.std.specs.List.{slice_get}
use Rattle.cob_move_data.specs.Moves.{Records}
use Rattle.cob_move_apply.specs.Marked.{moves_between_marks}
use Rattle.cob_move_apply.specs.Spared.{SpareEntry}
use Rattle.cob_move_apply.specs.declared.marked.MarkedMoves.{MarkedMoves}
use Rattle.cob_move_deeds.specs.declared.flow.Bound.{Bound}
use Rattle.cob_move_deeds.specs.declared.steady.Stretch.{Stretch}
use Rattle.cob_move_deeds.specs.Flows.{FlowSupport}

-- it begins at a mark, and ends at this or a later one
abbrev pub IsStretch : FlowSupport → Stretch → Type 0
IsStretch on s = (s.first ≤ s.last) × (s.last < length on.moves.marks.items)

-- The moves from any mark of a stretch to any later one spare what a bound stands in.
abbrev pub IsSteady : Records → MarkedMoves → Bound → Stretch → Type 0
IsSteady r m b s = (from to : ℕ) → s.first ≤ from → from ≤ to → to ≤ s.last → to < length m.marks.items → SpareEntry r (moves_between_marks r m from to) b.item

-- so it is of each bound with the stretch that is noted of it, if one is
abbrev pub AreSteady : Records → MarkedMoves → List Bound → List (Option Stretch) → Type 0
AreSteady r m bounds noted = (number : ℕ) (b : Bound) (s : Stretch) → slice_get bounds number ≡ Some b → slice_get noted number ≡ Some (Some s) → IsSteady r m b s
