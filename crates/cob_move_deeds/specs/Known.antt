-- What bounds are known to give.
use Rattle.std.specs.Prelude.{◌≡◌, ℕ, ◌<◌, ◌≤◌, List, length, Some, IfSome}
use Rattle.std.specs.List.{slice_get}
use Rattle.cob_move_data.specs.Moves.{Records}
use Rattle.cob_move_apply.specs.Applied.{Applied, done}
use Rattle.cob_move_apply.specs.Marked.{moves_between_marks}
use Rattle.cob_move_deeds.specs.declared.flow.Bound.{Bound}
use Rattle.cob_move_deeds.specs.declared.known.KnownBound.{KnownBound}
use Rattle.cob_move_deeds.specs.declared.known.KnownBounds.{KnownBounds}
use Rattle.cob_move_deeds.specs.Flows.{FlowSupport}
use Rattle.cob_move_deeds.specs.Steady.{IsSteady}
use Rattle.cob_move_deeds.specs.Tests.{BoundGives, past_bound}

-- the bound with this number gives this number in the storages of two records
pub record Gives (r : Records) (on : FlowSupport) (bound last : ℕ) (input before : List ℕ) : Type 0 where
  pub given : Bound
  pub at : slice_get on.bounds bound ≡ Some given
  pub gives : BoundGives r (past_bound r given 0) input before last

-- It still does so behind the moves from one mark to any later one that isn't behind a third.
abbrev pub StillGives : Records → FlowSupport → (bound last first end : ℕ) → (input before : List ℕ) → Type 0
StillGives r on bound last first end input before = (to : ℕ) (after : List ℕ) → first ≤ to → to ≤ end → to < length on.moves.marks.items
    → Applied r (moves_between_marks r on.moves first to) input before (done after) → Gives r on bound last input after

-- what is known of a bound: what it gives now, and between which marks moves leave that
pub record IsKnown (r : Records) (on : FlowSupport) (input before : List ℕ) (one : KnownBound) : Type 0 where
  pub given : Bound
  pub at : slice_get on.bounds one.bound ≡ Some given
  pub steady : IsSteady r on.moves given one.steady
  pub gives : BoundGives r (past_bound r given 0) input before one.gave

-- what is known holds
pub record AreKnown (r : Records) (on : FlowSupport) (input now : List ℕ) (k : KnownBounds) : Type 0 where
  pub last : IfSome k.last (IsKnown r on input now)
  pub before : IfSome k.before (IsKnown r on input now)
