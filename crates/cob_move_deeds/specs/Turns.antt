-- Loops: what a loop makes of a record turn by turn, and the choices that it is written out as.
use Rattle.std.specs.Prelude.{◌≡◌, ℕ, zero, suc, ◌+◌, true, false, List, Ok, Err, nat_lt}
use Rattle.cob_move_data.specs.Moves.{Records}
use Rattle.cob_move_apply.specs.declared.stop.Stop.{Stop}
use Rattle.cob_move_apply.specs.Applied.{Ending, done, stopped}
use Rattle.cob_move_deeds.specs.Deeds.{Carried, Choice, Deeds, Judging, Nothing, both_deeds}

-- PERFORM VARYING, as ANSI X3.23-1985 has it, from this number of the counter on: the test ends the loop where it holds; else the statements are carried
-- out with this number in the place of the counter, and the loop goes on from the number that is greater by so much.
pub data Performed {T : Type 0} (judged : Judging T) (r : Records) (until : ℕ → T) (body : ℕ → Deeds T) (by : ℕ) (input : List ℕ) : ℕ → List ℕ → Ending → Type 0 where
  loop_ends : (i : ℕ) (before : List ℕ) (end : Ending) → judged (until i) input before (Ok true) → end ≡ done before → Performed judged r until body by input i before end
  loop_stops : (i : ℕ) (before : List ℕ) (end : Ending) (stop : Stop) → judged (until i) input before (Err stop) → end ≡ stopped stop before → Performed judged r until body by input i before end
  loop_turns : (i : ℕ) (before : List ℕ) (end : Ending) (after : List ℕ) → judged (until i) input before (Ok false) → Carried judged r (body i) input before (done after)
      → Performed judged r until body by input (i + by) after end → Performed judged r until body by input i before end
  loop_breaks : (i : ℕ) (before : List ℕ) (end : Ending) (stop : Stop) (after : List ℕ) → judged (until i) input before (Ok false) → Carried judged r (body i) input before (stopped stop after)
      → end ≡ stopped stop after → Performed judged r until body by input i before end

-- A loop written out, from this number on: so many turns, each behind its test, and the test behind the last.
abbrev pub turns_from : {T : Type 0} → (ℕ → T) → (ℕ → Deeds T) → ℕ → ℕ → ℕ → Deeds T
turns_from until body by zero i = Choice (until i) Nothing Nothing Nothing
turns_from until body by (suc n) i = Choice (until i) Nothing (both_deeds (body i) (turns_from until body by n (i + by))) Nothing

-- a counter that is past a literal ends the loop, whatever the storages hold
abbrev pub IsPastLiteral : ℕ → Judging ℕ
IsPastLiteral bound i input output answer = answer ≡ Ok (nat_lt bound i)

-- the number behind so many turns
abbrev pub number_after : ℕ → ℕ → ℕ → ℕ
number_after by zero i = i
number_after by (suc n) i = number_after by n (i + by)
