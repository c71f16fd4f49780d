-- What follows from the definitions, said as laws.
use Rattle.std.specs.Prelude.{◌≡◌, ◌⊎◌, ◌↔◌, ℕ, ◌+◌, ◌<◌, ◌≤◌, List}
use Rattle.cob_move_data.specs.declared.operands.Side.TheVariants.{In}
use Rattle.cob_move_data.specs.Moves.{Move, Records}
use Rattle.cob_move_apply.specs.Applied.{Applied, Ending}
use Rattle.cob_layout.specs.Laws.{OneOfNeeded}
use Rattle.cob_move_condition.specs.Conditions.{Condition}
use Rattle.cob_move_condition.specs.Laws.{OneComparison}
use Rattle.cob_move_deeds.specs.Choices.{FirstDone, IfDone, When, selection}
use Rattle.cob_move_deeds.specs.Deeds.{Carried, Choice, Deeds, IsStraight, Moving, Nothing, moves_of_deeds}
use Rattle.cob_move_deeds.specs.Tests.{BoundGives, Holds, Judged, Past, Test, Until, with_number}
use Rattle.cob_move_loops.specs.Turns.{turns}
use Rattle.cob_move_deeds.specs.Turns.{IsPastLiteral, Performed, number_after, turns_from}

-- The laws of lower crates by which a test says one thing: the counts that a place needs are one, and so is what two operands compare to.
pub record TestLaws : Type 0 where
  pub counts : OneOfNeeded
  pub compared : OneComparison

-- Law: what is done without a test is what its moves come to, in order.
abbrev pub StraightIsApplied : Type 0
StraightIsApplied = (r : Records) (d : Deeds Test) (input before : List ℕ) (end : Ending) → IsStraight d
    → (Carried (Judged r) r d input before end → Applied r (moves_of_deeds d) input before end)
    × (Applied r (moves_of_deeds d) input before end → Carried (Judged r) r d input before end)

-- Law: what is done ends in one way.
abbrev pub OneCarried : Type 0
OneCarried = (r : Records) (d : Deeds Test) (input before : List ℕ) (a b : Ending)
    → Carried (Judged r) r d input before a → Carried (Judged r) r d input before b → a ≡ b

-- Law: a loop to the number that an item holds is what it is written out as, with the turns up to the greatest number that it may hold. Its statements may
-- change the item.
abbrev pub LoopIsItsTurns : Type 0
LoopIsItsTurns = (r : Records) (t : Past) (body : ℕ → Deeds Test) (by n i : ℕ) (input before : List ℕ) (end : Ending) → t.most < number_after by n i
    → (Carried (Judged r) r (turns_from (λ j. Until (with_number t j)) body by n i) input before end → Performed (Judged r) r (λ j. Until (with_number t j)) body by input i before end)
    × (Performed (Judged r) r (λ j. Until (with_number t j)) body by input i before end → Carried (Judged r) r (turns_from (λ j. Until (with_number t j)) body by n i) input before end)

-- Law: a loop with a literal bound, whose statements move alone, is the moves of its turns, one turn's behind another's.
abbrev pub LiteralLoopIsItsMoves : Type 0
LiteralLoopIsItsMoves = (r : Records) (body : ℕ → List Move) (by bound n i : ℕ) (input before : List ℕ) (end : Ending) → number_after by n i ≤ bound + by → bound < number_after by n i
    → (Applied r (turns body by n i) input before end → Performed (IsPastLiteral bound) r (λ k. k) (λ k. Moving (body k) Nothing) by input i before end)
    × (Performed (IsPastLiteral bound) r (λ k. k) (λ k. Moving (body k) Nothing) by input i before end → Applied r (turns body by n i) input before end)

-- Law: a loop to the number that an item of the input record holds, whose statements move alone, is the moves of its turns up to that number: no move changes
-- the item, so it is the same before each turn. Where the first number of the counter is past it there is no turn.
abbrev pub BoundOfInputIsKept : Type 0
BoundOfInputIsKept = (r : Records) (t : Past) (body : ℕ → List Move) (by n k i v : ℕ) (input before : List ℕ) (end : Ending) → t.side ≡ In → BoundGives r t input before v
    → t.most < number_after by n i → (k ≡ 0) ⊎ (number_after by k i ≤ v + by) → v < number_after by k i
    → (Carried (Judged r) r (turns_from (λ j. Until (with_number t j)) (λ j. Moving (body j) Nothing) by n i) input before end → Applied r (turns body by k i) input before end)
    × (Applied r (turns body by k i) input before end → Carried (Judged r) r (turns_from (λ j. Until (with_number t j)) (λ j. Moving (body j) Nothing) by n i) input before end)

-- Law: a choice with nothing behind it is IF.
abbrev pub ChoiceIsIf : Type 0
ChoiceIsIf = (r : Records) (c : Condition) (holding lacking : Deeds Test) (input before : List ℕ) (end : Ending)
    → Carried (Judged r) r (Choice (Holds c) holding lacking Nothing) input before end ↔ IfDone r c holding lacking input before end

-- Law: choices one within another are EVALUATE.
abbrev pub SelectionIsFirst : Type 0
SelectionIsFirst = (r : Records) (ws : List When) (other : Deeds Test) (input before : List ℕ) (end : Ending)
    → Carried (Judged r) r (selection ws other) input before end ↔ FirstDone r ws other input before end
