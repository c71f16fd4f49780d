-- IF and EVALUATE, as ANSI X3.23-1985 has them (Nucleus: the IF statement, the EVALUATE statement), and the choices that they are written out as.
use Rattle.std.specs.Prelude.{◌≡◌, ◌⊎◌, ℕ, true, false, List, [], ◌∷◌, ◌++◌, Ok, Err}
use Rattle.cob_move_data.specs.Moves.{Records}
use Rattle.cob_move_condition.specs.Conditions.{Condition}
use Rattle.cob_move_apply.specs.declared.stop.Stop.{Stop}
use Rattle.cob_move_apply.specs.Applied.{Ending, stopped}
use Rattle.cob_move_deeds.specs.Deeds.{Carried, Choice, Deeds, Nothing}
use Rattle.cob_move_deeds.specs.Tests.{Holds, Judged, Test}

-- IF: its condition is tested once, of the storages as they are then; where it holds what stands under it is done, where it doesn't what stands under ELSE, and
-- where something is missing for it the record stops.
pub data IfDone (r : Records) (c : Condition) (holding lacking : Deeds Test) (input before : List ℕ) (end : Ending) : Type 0 where
  if_holds : Judged r (Holds c) input before (Ok true) → Carried (Judged r) r holding input before end → IfDone r c holding lacking input before end
  if_lacks : Judged r (Holds c) input before (Ok false) → Carried (Judged r) r lacking input before end → IfDone r c holding lacking input before end
  if_stops : (stop : Stop) → Judged r (Holds c) input before (Err stop) → end ≡ stopped stop before → IfDone r c holding lacking input before end

-- one WHEN: its condition, and what is done behind it
pub record When : Type 0 where
  pub condition : Condition
  pub deeds : Deeds Test

-- EVALUATE written out: a choice for each WHEN, within what is done where those before don't hold, and last what stands behind WHEN OTHER
abbrev pub selection : List When → Deeds Test → Deeds Test
selection [] other = other
selection (w ∷ ws) other = Choice (Holds w.condition) w.deeds (selection ws other) Nothing

-- none of these holds
abbrev pub NoneHold : Records → (input before : List ℕ) → List When → Type 0
NoneHold r input before [] = Unit {0}
NoneHold r input before (w ∷ ws) = Judged r (Holds w.condition) input before (Ok false) × NoneHold r input before ws

-- one WHEN is reached: it holds, and what stands behind it is done; or something is missing for it
abbrev pub WhenDone : Records → When → (input before : List ℕ) → Ending → Type 0
WhenDone r w input before end =
    (Judged r (Holds w.condition) input before (Ok true) × Carried (Judged r) r w.deeds input before end)
    ⊎ ((stop : Stop) × Judged r (Holds w.condition) input before (Err stop) × (end ≡ stopped stop before))

-- EVALUATE: what stands behind the first WHEN that holds is done, and nothing else; where none holds, what stands behind WHEN OTHER. All are tested of the
-- storages as they were before the first.
abbrev pub FirstDone : Records → List When → Deeds Test → (input before : List ℕ) → Ending → Type 0
FirstDone r ws other input before end =
    (NoneHold r input before ws × Carried (Judged r) r other input before end)
    ⊎ ((front : List When) × (w : When) × (behind : List When) × (ws ≡ front ++ w ∷ behind) × NoneHold r input before front × WhenDone r w input before end)
