-- Turns in a row: flows that are passed over where what their tests' bound gives is known, and whose moves lie one behind another.
use Rattle.std.specs.Prelude.{◌≡◌, ℕ, ◌+◌, ◌<◌, ◌≤◌, List, ◌∷◌, drop}
use Rattle.cob_move_deeds.specs.declared.flow.Flow.{Flow}
use Rattle.cob_move_deeds.specs.declared.flow.Flow.TheVariants as flow

-- Behind the first mark, where the bound gives this number: of these flows some are passed over one by one, whose moves lie between that mark and another one,
-- and others are left. A test whose number is past the bound passes over what it says; another one is passed over alone.
pub data IsRow (bound last first : ℕ) (fs : List Flow) : ℕ → List Flow → Type 0 where
  row_begins : (to : ℕ) (left : List Flow) → to ≡ first → left ≡ fs → IsRow bound last first fs to left
  row_moves : (to next : ℕ) (left : List Flow) → IsRow bound last first fs to (flow.Moves to ∷ left) → next ≡ to + 1 → IsRow bound last first fs next left
  row_goes_on : (to number skip : ℕ) (left : List Flow) → IsRow bound last first fs to (flow.Until bound number skip ∷ left) → number ≤ last → IsRow bound last first fs to left
  row_ends : (to number skip : ℕ) (more left : List Flow) → IsRow bound last first fs to (flow.Until bound number skip ∷ more) → last < number → left ≡ drop skip more
      → IsRow bound last first fs to left
