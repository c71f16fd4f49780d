-- What is done to a record: moves in order, and choices between them.
use Rattle.std.specs.Prelude.{◌≡◌, ◌⊎◌, ℕ, Bool, true, false, List, [], ◌++◌, Ok, Err, Result}
use Rattle.cob_move_data.specs.Moves.{Move, Records}
use Rattle.cob_move_apply.specs.declared.stop.Stop.{Stop}
use Rattle.cob_move_apply.specs.Applied.{Applied, Ending, done, stopped}

-- Nothing; or the moves of a statement, and then the rest; or a test, what is done where it holds, what is done where it doesn't, and then the rest.
pub data Deeds (T : Type 0) : Type 0 where
  Nothing : Deeds T
  Moving : List Move → Deeds T → Deeds T
  Choice : T → Deeds T → Deeds T → Deeds T → Deeds T

-- what tests say of two storages: whether they hold, or the first thing that is missing
abbrev pub Judging : Type 0 → Type 1
Judging T = T → List ℕ → List ℕ → Result Bool Stop → Type 0

-- one thing, and then from what it leaves the next, up to the first stop
abbrev pub Then : (Ending → Type 0) → (List ℕ → Ending → Type 0) → Ending → Type 0
Then first next end =
    ((after : List ℕ) × first (done after) × next after end)
    ⊎ ((stop : Stop) × (after : List ℕ) × first (stopped stop after) × (end ≡ stopped stop after))

-- What is done to a record in order, up to the first that stops. A test is taken once, of the storages as they are then.
abbrev pub Carried : {T : Type 0} → Judging T → Records → Deeds T → List ℕ → List ℕ → Ending → Type 0
Carried judged r Nothing input before end = end ≡ done before
Carried judged r (Moving ms more) input before end =
    Then (Applied r ms input before) (λ after last. Carried judged r more input after last) end
Carried judged r (Choice t holding lacking more) input before end =
    (judged t input before (Ok true) × Then (λ first. Carried judged r holding input before first) (λ after last. Carried judged r more input after last) end)
    ⊎ ((judged t input before (Ok false) × Then (λ first. Carried judged r lacking input before first) (λ after last. Carried judged r more input after last) end)
    ⊎ ((stop : Stop) × judged t input before (Err stop) × (end ≡ stopped stop before)))

-- the one, and then the other
abbrev pub both_deeds : {T : Type 0} → Deeds T → Deeds T → Deeds T
both_deeds Nothing next = next
both_deeds (Moving ms more) next = Moving ms (both_deeds more next)
both_deeds (Choice t holding lacking more) next = Choice t holding lacking (both_deeds more next)

-- each of the moves that may be carried out, in order: those of both branches
abbrev pub moves_of_deeds : {T : Type 0} → Deeds T → List Move
moves_of_deeds Nothing = []
moves_of_deeds (Moving ms more) = ms ++ moves_of_deeds more
moves_of_deeds (Choice t holding lacking more) = moves_of_deeds holding ++ (moves_of_deeds lacking ++ moves_of_deeds more)

-- there is no test
abbrev pub IsStraight : {T : Type 0} → Deeds T → Type 0
IsStraight Nothing = Unit {0}
IsStraight (Moving ms more) = IsStraight more
IsStraight (Choice t holding lacking more) = ⊥

-- a test says one thing of two storages
abbrev pub IsDetermined : {T : Type 0} → Judging T → Type 0
IsDetermined {T} judged = (t : T) (input output : List ℕ) (a b : Result Bool Stop) → judged t input output a → judged t input output b → a ≡ b
