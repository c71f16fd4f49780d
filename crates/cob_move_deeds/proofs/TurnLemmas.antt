-- Loops, and what they are written out as.
use Rattle.std.proofs.Common.{◌≡◌, ℕ, zero, suc, ◌+◌, ◌<◌, ◌≤◌, Bool, true, false, List, refl, sym, ap, subst, arith, inl, inr, Ok, Err, Result, nat_lt, ◌⊎◌, Option, Some, None}
use Rattle.cob_move_data.specs.Moves.{Move, Records}
use Rattle.cob_move_apply.specs.declared.stop.Stop.{Stop}
use Rattle.cob_move_apply.specs.Applied.{Applied, Ending, done, stopped}
use Rattle.cob_move_apply.proofs.OneLemmas.{ok_is, ok_not}
use Rattle.cob_move_deeds.specs.Deeds.{Carried, Deeds, IsDetermined, Judging, Moving, Nothing, both_deeds}
use Rattle.cob_move_loops.specs.Turns.{turns}
use Rattle.cob_move_deeds.specs.Turns.{IsPastLiteral, Performed, loop_ends, loop_stops, loop_turns, loop_breaks, number_after, turns_from}
use Rattle.cob_move_deeds.proofs.DeedLemmas.{both_apart, both_together, done_then, moves_apart, moves_together, to_nothing, with_nothing}

-- past this number of the counter the test holds, or something is missing for it
abbrev pub EndsPast : {T : Type 0} → Judging T → (ℕ → T) → ℕ → Type 0
EndsPast judged until most = (i : ℕ) (input output : List ℕ) → judged (until i) input output (Ok false) → i ≤ most

further : (most i n by : ℕ) → most < number_after by (suc n) i → most < number_after by n (i + by)
further most i n by far = far

pub loop_there : {T : Type 0} (judged : Judging T) (r : Records) (until : ℕ → T) (body : ℕ → Deeds T) (by most n i : ℕ) (input before : List ℕ) (end : Ending)
    → EndsPast judged until most → most < number_after by n i → Carried judged r (turns_from until body by n i) input before end → Performed judged r until body by input i before end
loop_there judged r until body by most zero i input before end past far (inl (is, x)) =
    loop_ends i before end is (done_then before (λ after last. last ≡ done after) end x)
loop_there judged r until body by most zero i input before end past far (inr (inl (is, x))) = absurd (let le : i ≤ most = past i input before is in omega (arith, le, far))
loop_there judged r until body by most zero i input before end past far (inr (inr (stop, is, e))) = loop_stops i before end stop is e
loop_there judged r until body by most (suc n) i input before end past far (inl (is, x)) =
    loop_ends i before end is (done_then before (λ after last. last ≡ done after) end x)
loop_there judged r until body by most (suc n) i input before end past far (inr (inl (is, x))) =
    elim (both_apart judged r (body i) (turns_from until body by n (i + by)) input before end (to_nothing judged r (both_deeds (body i) (turns_from until body by n (i + by))) input before end x)) [
      | inl (after, y, z) ↦ loop_turns i before end after is y (loop_there judged r until body by most n (i + by) input after end past (further most i n by far) z)
      | inr (stop, after, y, e) ↦ loop_breaks i before end stop after is y e
    ]
loop_there judged r until body by most (suc n) i input before end past far (inr (inr (stop, is, e))) = loop_stops i before end stop is e

pub loop_back : {T : Type 0} (judged : Judging T) (r : Records) (until : ℕ → T) (body : ℕ → Deeds T) (by most n i : ℕ) (input before : List ℕ) (end : Ending)
    → EndsPast judged until most → most < number_after by n i → Performed judged r until body by input i before end → Carried judged r (turns_from until body by n i) input before end
loop_back judged r until body by most zero i input before end past far (loop_ends _ _ _ is e) = inl (is, inl (before, refl, e))
loop_back judged r until body by most zero i input before end past far (loop_stops _ _ _ stop is e) = inr (inr (stop, is, e))
loop_back judged r until body by most zero i input before end past far (loop_turns _ _ _ after is x more) = absurd (let le : i ≤ most = past i input before is in omega (arith, le, far))
loop_back judged r until body by most zero i input before end past far (loop_breaks _ _ _ stop after is x e) = absurd (let le : i ≤ most = past i input before is in omega (arith, le, far))
loop_back judged r until body by most (suc n) i input before end past far (loop_ends _ _ _ is e) = inl (is, inl (before, refl, e))
loop_back judged r until body by most (suc n) i input before end past far (loop_stops _ _ _ stop is e) = inr (inr (stop, is, e))
loop_back judged r until body by most (suc n) i input before end past far (loop_turns _ _ _ after is x more) =
    inr (inl (
      is,
      with_nothing judged r (both_deeds (body i) (turns_from until body by n (i + by))) input before end
          (both_together judged r (body i) (turns_from until body by n (i + by)) input before end
          (inl (after, x, loop_back judged r until body by most n (i + by) input after end past (further most i n by far) more))),
    ))
loop_back judged r until body by most (suc n) i input before end past far (loop_breaks _ _ _ stop after is x e) =
    inr (inl (
      is,
      with_nothing judged r (both_deeds (body i) (turns_from until body by n (i + by))) input before end
          (both_together judged r (body i) (turns_from until body by n (i + by)) input before end (inr (stop, after, x, e))),
    ))

-- ---- a literal bound

pub past_not : (bound i : ℕ) → i ≤ bound → nat_lt bound i ≡ false
past_not bound i le = grind (arith, le)

pub past_is : (bound i : ℕ) → bound < i → nat_lt bound i ≡ true
past_is bound i lt = grind (arith, lt)

goes_on : (bound i : ℕ) → bound < i → ◌≡◌ {A = Result Bool Stop} (Ok false) (Ok (nat_lt bound i)) → ⊥
goes_on bound i lt is = let same : false ≡ nat_lt bound i = ok_is {E = Stop} false (nat_lt bound i) is in let past : nat_lt bound i ≡ true = past_is bound i lt in cc

ends_early : (bound i : ℕ) → i ≤ bound → ◌≡◌ {A = Result Bool Stop} (Ok true) (Ok (nat_lt bound i)) → ⊥
ends_early bound i le is = let same : true ≡ nat_lt bound i = ok_is {E = Stop} true (nat_lt bound i) is in let not_past : nat_lt bound i ≡ false = past_not bound i le in cc

least : (by n i : ℕ) → i ≤ number_after by n i
least by zero i = omega arith
least by (suc n) i = omega (arith, least by n (i + by))

pub before_last : (bound i n by : ℕ) → number_after by (suc n) i ≤ bound + by → i ≤ bound
before_last bound i n by near = omega (arith, least by n (i + by), near)

nearer : (bound i n by : ℕ) → number_after by (suc n) i ≤ bound + by → number_after by n (i + by) ≤ bound + by
nearer bound i n by near = near

with_moves : {T : Type 0} (judged : Judging T) (r : Records) (ms : List Move) (input before : List ℕ) (stop : Option Stop) (storage : List ℕ)
    → Applied r ms input before (record { stop = stop; storage = storage }) → Carried judged r (Moving ms Nothing) input before (record { stop = stop; storage = storage })
with_moves judged r ms input before None storage x = inl (storage, x, refl)
with_moves judged r ms input before (Some stop) storage x = inr (stop, storage, x, refl)

moves_alone : {T : Type 0} (judged : Judging T) (r : Records) (ms : List Move) (input before : List ℕ) (end : Ending)
    → Carried judged r (Moving ms Nothing) input before end → Applied r ms input before end
moves_alone judged r ms input before end (inl (after, x, e)) = subst (λ (k : Ending). Applied r ms input before k) (sym e) x
moves_alone judged r ms input before end (inr (stop, after, x, e)) = subst (λ (k : Ending). Applied r ms input before k) (sym e) x

alone : (r : Records) (judged : Judging ℕ) (ms : List Move) (input before : List ℕ) (end : Ending) → Applied r ms input before end → Carried judged r (Moving ms Nothing) input before end
alone r judged ms input before end x = with_moves judged r ms input before end.stop end.storage x

pub literal_there : (r : Records) (body : ℕ → List Move) (by bound n i : ℕ) (input before : List ℕ) (end : Ending) → number_after by n i ≤ bound + by → bound < number_after by n i
    → Applied r (turns body by n i) input before end → Performed (IsPastLiteral bound) r (λ k. k) (λ k. Moving (body k) Nothing) by input i before end
literal_there r body by bound zero i input before end near far x =
    loop_ends i before end (ap (λ (b : Bool). Ok b) (sym (past_is bound i (omega (arith, far))))) x
literal_there r body by bound (suc n) i input before end near far x =
    let not_past : nat_lt bound i ≡ false = past_not bound i (before_last bound i n by near) in
    elim (moves_apart r (body i) (turns body by n (i + by)) input before end x) [
      | inl (after, y, z) ↦ loop_turns i before end after (ap (λ (b : Bool). Ok b) (sym not_past)) (alone r (IsPastLiteral bound) (body i) input before (done after) y)
          (literal_there r body by bound n (i + by) input after end (nearer bound i n by near) (further bound i n by far) z)
      | inr (stop, after, y, e) ↦ loop_breaks i before end stop after (ap (λ (b : Bool). Ok b) (sym not_past)) (alone r (IsPastLiteral bound) (body i) input before (stopped stop after) y) e
    ]

pub literal_back : (r : Records) (body : ℕ → List Move) (by bound n i : ℕ) (input before : List ℕ) (end : Ending) → number_after by n i ≤ bound + by → bound < number_after by n i
    → Performed (IsPastLiteral bound) r (λ k. k) (λ k. Moving (body k) Nothing) by input i before end → Applied r (turns body by n i) input before end
literal_back r body by bound zero i input before end near far (loop_ends _ _ _ is e) = e
literal_back r body by bound zero i input before end near far (loop_stops _ _ _ stop is e) = absurd (ok_not {A = Bool} (nat_lt bound i) stop (sym is))
literal_back r body by bound zero i input before end near far (loop_turns _ _ _ after is x more) = absurd (goes_on bound i (omega (arith, far)) is)
literal_back r body by bound zero i input before end near far (loop_breaks _ _ _ stop after is x e) = absurd (goes_on bound i (omega (arith, far)) is)
literal_back r body by bound (suc n) i input before end near far (loop_ends _ _ _ is e) = absurd (ends_early bound i (before_last bound i n by near) is)
literal_back r body by bound (suc n) i input before end near far (loop_stops _ _ _ stop is e) = absurd (ok_not {A = Bool} (nat_lt bound i) stop (sym is))
literal_back r body by bound (suc n) i input before end near far (loop_turns _ _ _ after is x more) =
    moves_together r (body i) (turns body by n (i + by)) input before end
    (inl (after, moves_alone (IsPastLiteral bound) r (body i) input before (done after) x, literal_back r body by bound n (i + by) input after end (nearer bound i n by near) (further bound i n by far) more))
literal_back r body by bound (suc n) i input before end near far (loop_breaks _ _ _ stop after is x e) =
    moves_together r (body i) (turns body by n (i + by)) input before end (inr (stop, after, moves_alone (IsPastLiteral bound) r (body i) input before (stopped stop after) x, e))

-- ---- a bound that no move changes

-- a counter that is past the bound makes no turn
none_there : (r : Records) (body : ℕ → List Move) (by bound i : ℕ) (input before : List ℕ) (end : Ending) → bound < i
    → Performed (IsPastLiteral bound) r (λ k. k) (λ k. Moving (body k) Nothing) by input i before end → end ≡ done before
none_there r body by bound i input before end far (loop_ends _ _ _ is e) = e
none_there r body by bound i input before end far (loop_stops _ _ _ stop is e) = absurd (ok_not {A = Bool} (nat_lt bound i) stop (sym is))
none_there r body by bound i input before end far (loop_turns _ _ _ after is x more) = absurd (goes_on bound i far is)
none_there r body by bound i input before end far (loop_breaks _ _ _ stop after is x e) = absurd (goes_on bound i far is)

none_back : (r : Records) (body : ℕ → List Move) (by bound i : ℕ) (input before : List ℕ) (end : Ending) → bound < i → end ≡ done before
    → Performed (IsPastLiteral bound) r (λ k. k) (λ k. Moving (body k) Nothing) by input i before end
none_back r body by bound i input before end far e = loop_ends i before end (ap (λ (b : Bool). Ok b) (sym (past_is bound i far))) e

-- tests that say of each number what a literal says
abbrev pub SaysAs : {T : Type 0} → Judging T → (ℕ → T) → ℕ → List ℕ → Type 0
SaysAs judged until v input = (s : List ℕ) (j : ℕ) → judged (until j) input s (Ok (nat_lt v j))

known_back : {T : Type 0} (judged : Judging T) (r : Records) (until : ℕ → T) (body : ℕ → List Move) (by v : ℕ) (input : List ℕ) (i : ℕ) (before : List ℕ) (end : Ending) → SaysAs judged until v input
    → Performed (IsPastLiteral v) r (λ k. k) (λ k. Moving (body k) Nothing) by input i before end → Performed judged r until (λ k. Moving (body k) Nothing) by input i before end
known_back judged r until body by v input i before end says (loop_ends _ _ _ is e) =
    loop_ends i before end (subst (λ (a : Result Bool Stop). judged (until i) input before a) (sym is) (says before i)) e
known_back judged r until body by v input i before end says (loop_stops _ _ _ stop is e) = absurd (ok_not {A = Bool} (nat_lt v i) stop (sym is))
known_back judged r until body by v input i before end says (loop_turns _ _ _ after is x more) =
    loop_turns i before end after (subst (λ (a : Result Bool Stop). judged (until i) input before a) (sym is) (says before i)) x (known_back judged r until body by v input (i + by) after end says more)
known_back judged r until body by v input i before end says (loop_breaks _ _ _ stop after is x e) =
    loop_breaks i before end stop after (subst (λ (a : Result Bool Stop). judged (until i) input before a) (sym is) (says before i)) x e

known_there : {T : Type 0} (judged : Judging T) (r : Records) (until : ℕ → T) (body : ℕ → List Move) (by v : ℕ) (input : List ℕ) (i : ℕ) (before : List ℕ) (end : Ending) → IsDetermined judged → SaysAs judged until v input
    → Performed judged r until (λ k. Moving (body k) Nothing) by input i before end → Performed (IsPastLiteral v) r (λ k. k) (λ k. Moving (body k) Nothing) by input i before end
known_there judged r until body by v input i before end law says (loop_ends _ _ _ is e) =
    loop_ends i before end (law (until i) input before (Ok true) (Ok (nat_lt v i)) is (says before i)) e
known_there judged r until body by v input i before end law says (loop_stops _ _ _ stop is e) =
    absurd (ok_not {A = Bool} (nat_lt v i) stop (law (until i) input before (Ok (nat_lt v i)) (Err stop) (says before i) is))
known_there judged r until body by v input i before end law says (loop_turns _ _ _ after is x more) =
    loop_turns i before end after (law (until i) input before (Ok false) (Ok (nat_lt v i)) is (says before i)) x (known_there judged r until body by v input (i + by) after end law says more)
known_there judged r until body by v input i before end law says (loop_breaks _ _ _ stop after is x e) =
    loop_breaks i before end stop after (law (until i) input before (Ok false) (Ok (nat_lt v i)) is (says before i)) x e

-- the literal loop is the moves of its turns, also where there is none
literal_any : (r : Records) (body : ℕ → List Move) (by bound k i : ℕ) (input before : List ℕ) (end : Ending) → (k ≡ 0) ⊎ (number_after by k i ≤ bound + by) → bound < number_after by k i
    → (Applied r (turns body by k i) input before end → Performed (IsPastLiteral bound) r (λ j. j) (λ j. Moving (body j) Nothing) by input i before end)
    × (Performed (IsPastLiteral bound) r (λ j. j) (λ j. Moving (body j) Nothing) by input i before end → Applied r (turns body by k i) input before end)
literal_any r body by bound zero i input before end near far = (none_back r body by bound i input before end far, none_there r body by bound i input before end far)
literal_any r body by bound (suc n) i input before end (inl none) far = absurd (omega (arith, none))
literal_any r body by bound (suc n) i input before end (inr near) far =
    (literal_there r body by bound (suc n) i input before end near far, literal_back r body by bound (suc n) i input before end near far)

pub known_is_moves : {T : Type 0} (judged : Judging T) (r : Records) (until : ℕ → T) (body : ℕ → List Move) (by most n k i v : ℕ) (input before : List ℕ) (end : Ending) → IsDetermined judged → EndsPast judged until most
    → SaysAs judged until v input → most < number_after by n i → (k ≡ 0) ⊎ (number_after by k i ≤ v + by) → v < number_after by k i
    → (Carried judged r (turns_from until (λ j. Moving (body j) Nothing) by n i) input before end → Applied r (turns body by k i) input before end)
    × (Applied r (turns body by k i) input before end → Carried judged r (turns_from until (λ j. Moving (body j) Nothing) by n i) input before end)
known_is_moves judged r until body by most n k i v input before end law past says far near beyond =
    let (to, back) = literal_any r body by v k i input before end near beyond in (
      λ x. back (known_there judged r until body by v input i before end law says (loop_there judged r until (λ j. Moving (body j) Nothing) by most n i input before end past far x)),
      λ x. loop_back judged r until (λ j. Moving (body j) Nothing) by most n i input before end past far (known_back judged r until body by v input i before end says (to x)),
    )
