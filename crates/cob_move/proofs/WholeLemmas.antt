-- The moves that may be carried out, in their order, and deeds without a test.
use Rattle.std.proofs.Common.{◌≡◌, ℕ, zero, suc, ◌+◌, ◌*◌, ◌<◌, List, [], ◌∷◌, ◌++◌, refl, sym, ap, ◌∙◌, append_assoc, append-nil, arith}
use Rattle.std.proofs.Math.Nat.{suc-mul}
use Rattle.cob_move_data.specs.declared.operands.StatementMoves.{StatementMoves}
use Rattle.cob_move_data.specs.Moves.{Move, Records, moves}
use Rattle.cob_move_deeds.specs.Deeds.{Choice, Deeds, IsStraight, Moving, Nothing, both_deeds, moves_of_deeds}
use Rattle.cob_move_deeds.specs.Turns.{turns_from}
use Rattle.cob_move_loops.specs.Turns.{turns}
use Rattle.cob_move.specs.DeedsRead.{open_deeds}
use Rattle.cob_move.specs.Joined.{before_deeds, joined_deeds}

moves_before : {T : Type 0} (ms : List Move) (d : Deeds T) → moves_of_deeds (before_deeds ms d) ≡ ms ++ moves_of_deeds d
moves_before ms Nothing = refl
moves_before ms (Moving own more) = append_assoc ms own (moves_of_deeds more)
moves_before ms (Choice t holding lacking more) = refl

pub moves_joined : {T : Type 0} (d next : Deeds T) → moves_of_deeds (joined_deeds d next) ≡ moves_of_deeds d ++ moves_of_deeds next
moves_joined Nothing next = refl
moves_joined (Moving ms more) next =
    moves_before ms (joined_deeds more next) ∙ ap (λ (t : List Move). ms ++ t) (moves_joined more next) ∙ sym (append_assoc ms (moves_of_deeds more) (moves_of_deeds next))
moves_joined (Choice t holding lacking more) next =
    ap (λ (u : List Move). moves_of_deeds holding ++ (moves_of_deeds lacking ++ u)) (moves_joined more next)
    ∙ ap (λ (u : List Move). moves_of_deeds holding ++ u) (sym (append_assoc (moves_of_deeds lacking) (moves_of_deeds more) (moves_of_deeds next)))
    ∙ sym (append_assoc (moves_of_deeds holding) (moves_of_deeds lacking ++ moves_of_deeds more) (moves_of_deeds next))

moves_both_deeds : {T : Type 0} (d next : Deeds T) → moves_of_deeds (both_deeds d next) ≡ moves_of_deeds d ++ moves_of_deeds next
moves_both_deeds Nothing next = refl
moves_both_deeds (Moving ms more) next = ap (λ (t : List Move). ms ++ t) (moves_both_deeds more next) ∙ sym (append_assoc ms (moves_of_deeds more) (moves_of_deeds next))
moves_both_deeds (Choice t holding lacking more) next =
    ap (λ (u : List Move). moves_of_deeds holding ++ (moves_of_deeds lacking ++ u)) (moves_both_deeds more next)
    ∙ ap (λ (u : List Move). moves_of_deeds holding ++ u) (sym (append_assoc (moves_of_deeds lacking) (moves_of_deeds more) (moves_of_deeds next)))
    ∙ sym (append_assoc (moves_of_deeds holding) (moves_of_deeds lacking ++ moves_of_deeds more) (moves_of_deeds next))

-- the moves of turns behind tests are those of the turns
pub moves_of_tested : {T : Type 0} (until : ℕ → T) (f : ℕ → Deeds T) (by n i : ℕ) → moves_of_deeds (turns_from until f by n i) ≡ turns (λ (j : ℕ). moves_of_deeds (f j)) by n i
moves_of_tested until f by zero i = refl
moves_of_tested until f by (suc n) i =
    append-nil (moves_of_deeds (both_deeds (f i) (turns_from until f by n (i + by)))) ∙ moves_both_deeds (f i) (turns_from until f by n (i + by))
    ∙ ap (λ (t : List Move). moves_of_deeds (f i) ++ t) (moves_of_tested until f by n (i + by))

-- one turn more
pub turns_one_more : {A : Type 0} (g : ℕ → List A) (by n i : ℕ) → turns g by (suc n) i ≡ turns g by n i ++ g (i + n * by)
turns_one_more g by zero i = append-nil (g i) ∙ ap g (omega arith)
turns_one_more g by (suc n) i =
    ap (λ t. g i ++ t) (turns_one_more g by n (i + by)) ∙ sym (append_assoc (g i) (turns g by n (i + by)) (g (i + by + n * by)))
    ∙ ap (λ (j : ℕ). (g i ++ turns g by n (i + by)) ++ g j) (omega (arith, suc-mul n by))

-- turns of two functions that are the same at their numbers
pub turns_as : {A : Type 0} (g h : ℕ → List A) (by n i : ℕ) → ((k : ℕ) → k < n → g (i + k * by) ≡ h (i + k * by)) → turns g by n i ≡ turns h by n i
turns_as g h by zero i same = refl
turns_as g h by (suc n) i same =
    let first : g i ≡ h i = ap g (omega arith) ∙ same 0 (omega arith) ∙ ap h (omega arith) in
    let rest = turns_as g h by n (i + by) (λ k less. ap g (omega (arith, suc-mul k by)) ∙ same (suc k) (omega (arith, less)) ∙ ap h (omega (arith, suc-mul k by))) in
    ap (λ t. t ++ turns g by n (i + by)) first ∙ ap (λ t. h i ++ t) rest

pub moves_of_open : (r : Records) (ss : List StatementMoves) → moves r ss ≡ moves_of_deeds (open_deeds r ss)
moves_of_open r [] = refl
moves_of_open r (s ∷ ss) = sym (append-nil (moves r (s ∷ ss)))

-- ---- deeds without a test

straight_before : {T : Type 0} (ms : List Move) (d : Deeds T) → IsStraight (before_deeds ms d) → IsStraight d
straight_before ms Nothing is = tt
straight_before ms (Moving own more) is = is
straight_before ms (Choice t holding lacking more) is = absurd is

pub straight_parts : {T : Type 0} (d next : Deeds T) → IsStraight (joined_deeds d next) → IsStraight d × IsStraight next
straight_parts Nothing next is = (tt, is)
straight_parts (Moving ms more) next is = straight_parts more next (straight_before ms (joined_deeds more next) is)
straight_parts (Choice t holding lacking more) next is = absurd is

pub tested_not_straight : {T : Type 0} (until : ℕ → T) (f : ℕ → Deeds T) (by n i : ℕ) → IsStraight (turns_from until f by n i) → ⊥
tested_not_straight until f by zero i is = is
tested_not_straight until f by (suc n) i is = is
