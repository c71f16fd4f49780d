-- Loops whose bound stands in the input record: how many turns they have, and which moves these are.
use Rattle.std.proofs.Common.{◌≡◌, ◌⊎◌, ℕ, zero, suc, ◌+◌, ◌-◌, ◌*◌, ◌/◌, ◌%◌, ◌<◌, ◌≤◌, Bool, true, false, List, ◌++◌, length, nat_lt, refl, sym, ap, subst, ◌∙◌, arith, inl, inr, Err, Option, Some}
use Rattle.std.specs.Prelude.{if◌then◌else◌}
use Rattle.std.specs.List.{slice_get}
use Rattle.std.proofs.lemmas.Nat.{div-add-mod', div-mul-add, div_below, mod_below}
use Rattle.std.proofs.Math.Nat.{suc-mul}
use Rattle.cob_move_data.specs.declared.operands.Side.TheVariants.{In}
use Rattle.cob_move_data.specs.declared.operands.StatementMoves.{StatementMoves}
use Rattle.cob_move_data.specs.Moves.{Move, Records, moves_by}
use Rattle.cob_move_apply.specs.Applied.{Applied, Ending, stopped}
use Rattle.cob_move_apply.specs.Marked.{AreMarkedPrepared, items_between, mark_at, moves_between_marks}
use Rattle.cob_move_apply.specs.declared.marked.MarkedMoves.{MarkedMoves}
use Rattle.cob_move_apply.specs.declared.stop.Stop.{Stop}
use Rattle.cob_move_apply.proofs.MarkLemmas.{between_both, none_between}
use Rattle.cob_move_apply.proofs.PlanLemmas.{moves_append}
use Rattle.cob_move_loops.specs.Turns.{turns, turns_between}
use Rattle.cob_move_deeds.specs.declared.flow.Bound.{Bound}
use Rattle.cob_move_deeds.specs.declared.flow.CountedLoop.{CountedLoop}
use Rattle.cob_move_deeds.specs.Deeds.{Carried, Deeds, Moving, Nothing}
use Rattle.cob_move_deeds.specs.Flows.{FlowSupport, IsLoop, loop_done, moves_of_turn, turns_to}
use Rattle.cob_move_deeds.specs.Laws.{TestLaws}
use Rattle.cob_move_deeds.specs.Tests.{BoundGives, Judged, JudgedPast, Past, Test, Until, past_bound, with_number}
use Rattle.cob_move_deeds.specs.Turns.{number_after, turns_from}
use Rattle.cob_move_deeds.proofs.TestLemmas.{determined, ends_past, says_of_input}
use Rattle.cob_move_deeds.proofs.TurnLemmas.{known_is_moves}

-- ---- numbers

pub after_is : (by n i : ℕ) → number_after by n i ≡ i + n * by
after_is by zero i = omega arith
after_is by (suc n) i = omega (arith, after_is by n (i + by), suc-mul n by)

-- how many turns there are where the first number is not past the bound
pub turns_some : (from by v : ℕ) → from ≤ v → turns_between from by v ≡ (v - from) / by + 1
turns_some from by v le =
    let not_past : nat_lt v from ≡ false = grind (arith, le) in
    ap (λ (b : Bool). if b then 0 else (v - from) / by + 1) not_past

pub turns_none : (from by v : ℕ) → v < from → turns_between from by v ≡ 0
turns_none from by v lt =
    let past : nat_lt v from ≡ true = grind (arith, lt) in
    ap (λ (b : Bool). if b then 0 else (v - from) / by + 1) past

-- what is known of so many turns
pub record Reaches (from by v k : ℕ) : Type 0 where
  pub near : (k ≡ 0) ⊎ (number_after by k from ≤ v + by)
  pub beyond : v < number_after by k from
  pub some : (k ≡ 0) ⊎ (from + (k - 1) * by ≤ v)

reach : (from by v : ℕ) → 0 < by → from ≤ v → Reaches from by v ((v - from) / by + 1)
reach from by v some le =
    let q : ℕ = (v - from) / by in
    let whole : q * by + (v - from) % by ≡ v - from = div-add-mod' (v - from) by in
    let small : (v - from) % by < by = mod_below (v - from) by some in
    let count : (q + 1) * by ≡ q * by + by = ap (λ (n : ℕ). n * by) (one_more q) ∙ times q in
    let after : number_after by (q + 1) from ≡ from + (q + 1) * by = after_is by (q + 1) from in
    let back : (q + 1) - 1 ≡ q = omega arith in record {
      near = inr (omega (arith, after, count, whole, le));
      beyond = omega (arith, after, count, whole, small, le);
      some = inr (subst (λ (n : ℕ). from + n * by ≤ v) (sym back) (omega (arith, whole, le)));
    }
  where
    one_more : (n : ℕ) → n + 1 ≡ suc n
    one_more n = omega arith

    times : (n : ℕ) → suc n * by ≡ n * by + by
    times n = omega (arith, suc-mul n by)

pub reaches : (from by v : ℕ) → 0 < by → (v < from) ⊎ (from ≤ v) → Reaches from by v (turns_between from by v)
reaches from by v some (inl lt) =
    let none : turns_between from by v ≡ 0 = turns_none from by v lt in
    subst (λ (k : ℕ). Reaches from by v k) (sym none) (record { near = inl refl; beyond = omega (arith, lt, after_is by 0 from); some = inl refl })
reaches from by v some (inr le) = subst (λ (k : ℕ). Reaches from by v k) (sym (turns_some from by v le)) (reach from by v some le)

pub either_side : (n m : ℕ) → (n < m) ⊎ (m ≤ n)
either_side zero zero = inr (omega arith)
either_side zero (suc m) = inl (omega arith)
either_side (suc n) zero = inr (omega arith)
either_side (suc n) (suc m) = elim (either_side n m) [
  | inl lt ↦ inl (omega (arith, lt))
  | inr le ↦ inr (omega (arith, le))
]

-- no more turns than there may be
pub few_turns : (from by v most turns : ℕ) → 0 < by → v ≤ most → most < number_after by turns from → turns_between from by v ≤ turns
few_turns from by v most turns some le far = few (either_side v from)
  where
    few : (v < from) ⊎ (from ≤ v) → turns_between from by v ≤ turns
    few (inl lt) = omega (arith, turns_none from by v lt)
    few (inr not_past) =
        let below : v - from < turns * by = omega (arith, le, far, after_is by turns from, not_past) in
        omega (arith, turns_some from by v not_past, div_below (v - from) by turns some below)

-- ---- the moves of turns

-- the moves from one mark to another, and then those to a third
pub moves_on : (r : Records) (m : MarkedMoves) (a b c : ℕ) → AreMarkedPrepared r m → a ≤ b → b ≤ c → c < length m.marks.items
    → moves_between_marks r m a b ++ moves_between_marks r m b c ≡ moves_between_marks r m a c
moves_on r m a b c prepared le more within =
    let first = (prepared.parted.rise a b le (omega (arith, more, within))).0 in
    let second = (prepared.parted.rise b c more within).0 in
    let given = m.moves.statements.items in
    let at : ℕ → ℕ = λ k. (mark_at m.marks.items k).statement in
    sym (moves_append m.moves.reading r (items_between (at a) (at b) given) (items_between (at b) (at c) given))
    ∙ ap (moves_by m.moves.reading r) (sym (between_both (at a) (at b) (at c) given first second))

-- the turn of a number
turn_at : (from by j : ℕ) → 0 < by → ((from + j * by) - from) / by ≡ j
turn_at from by j some =
    let less : (from + j * by) - from ≡ j * by + 0 = omega arith in
    ap (λ (n : ℕ). n / by) less ∙ div-mul-add j by 0 some

-- the moves of so many turns from one on are those from its mark on
turns_are : (r : Records) (m : MarkedMoves) (l : CountedLoop) (k j : ℕ) → AreMarkedPrepared r m → 0 < l.by → l.first + (j + k) < length m.marks.items
    → turns (moves_of_turn r m l) l.by k (l.from + j * l.by) ≡ moves_between_marks r m (l.first + j) (l.first + (j + k))
turns_are r m l zero j prepared some within =
    let same : l.first + j ≡ l.first + (j + 0) = omega arith in
    let at : ℕ = (mark_at m.marks.items (l.first + j)).statement in
    ap (λ (ss : List StatementMoves). moves_by m.moves.reading r ss) (sym (none_between at m.moves.statements.items)) ∙ ap (λ (n : ℕ). moves_between_marks r m (l.first + j) n) same
turns_are r m l (suc k) j prepared some within =
    let here : (l.first + ((l.from + j * l.by) - l.from) / l.by) ≡ l.first + j = ap (λ (n : ℕ). l.first + n) (turn_at l.from l.by j some) in
    let one : moves_of_turn r m l (l.from + j * l.by) ≡ moves_between_marks r m (l.first + j) (l.first + j + 1) = ap (λ (n : ℕ). moves_between_marks r m n (n + 1)) here in
    let next : (l.from + j * l.by) + l.by ≡ l.from + (j + 1) * l.by = omega (arith, suc_times j) in
    let more = turns_are r m l k (j + 1) prepared some (omega (arith, within)) in
    let there : l.first + (j + 1) ≡ l.first + j + 1 = omega arith in
    let end : l.first + ((j + 1) + k) ≡ l.first + (j + suc k) = omega arith in
    ap (λ (ms : List Move). ms ++ turns (moves_of_turn r m l) l.by k ((l.from + j * l.by) + l.by)) one
    ∙ ap (λ (n : ℕ). moves_between_marks r m (l.first + j) (l.first + j + 1) ++ turns (moves_of_turn r m l) l.by k n) next
    ∙ ap (λ (ms : List Move). moves_between_marks r m (l.first + j) (l.first + j + 1) ++ ms) (more ∙ ap (λ (n : ℕ). moves_between_marks r m n (l.first + ((j + 1) + k))) there)
    ∙ ap (λ (n : ℕ). moves_between_marks r m (l.first + j) (l.first + j + 1) ++ moves_between_marks r m (l.first + j + 1) n) end
    ∙ moves_on r m (l.first + j) (l.first + j + 1) (l.first + (j + suc k)) prepared (omega arith) (omega arith) within
  where
    suc_times : (n : ℕ) → (n + 1) * l.by ≡ n * l.by + l.by
    suc_times n = let one : n + 1 ≡ suc n = omega arith in ap (λ (c : ℕ). c * l.by) one ∙ omega (arith, suc-mul n l.by)

pub turns_all : (r : Records) (m : MarkedMoves) (l : CountedLoop) (k : ℕ) → AreMarkedPrepared r m → 0 < l.by → l.first + k < length m.marks.items
    → turns (moves_of_turn r m l) l.by k l.from ≡ moves_between_marks r m l.first (l.first + k)
turns_all r m l k prepared some within =
    let from : l.from ≡ l.from + 0 * l.by = omega arith in
    let first : l.first + 0 ≡ l.first = omega arith in
    let count : 0 + k ≡ k = omega arith in
    ap (λ (n : ℕ). turns (moves_of_turn r m l) l.by k n) from
    ∙ turns_are r m l k 0 prepared some (omega (arith, within))
    ∙ ap (λ (n : ℕ). moves_between_marks r m (l.first + 0) (l.first + n)) count
    ∙ ap (λ (n : ℕ). moves_between_marks r m n (l.first + k)) first

-- ---- a loop carried out

-- the bound gives a number: the moves of the turns up to it are the loop
pub loop_made : TestLaws → (r : Records) (on : FlowSupport) (l : CountedLoop) (b : Bound) (v : ℕ) (input before : List ℕ) (end : Ending) → AreMarkedPrepared r on.moves → (is : IsLoop on l)
    → slice_get on.bounds l.bound ≡ Some b → is.bound ≡ b → BoundGives r (past_bound r b 0) input before v → v ≤ b.most
    → Applied r (moves_between_marks r on.moves l.first (l.first + turns_between l.from l.by v)) input before end → Carried (Judged r) r (loop_done r on (Some l)) input before end
loop_made law r on l b v input before end prepared is at same gives below applied =
    let t : Past = past_bound r b 0 in
    let known_of = reaches l.from l.by v is.grows (either_side v l.from) in
    let far = subst (λ (c : Bound). c.most < number_after l.by l.turns l.from) same is.far in
    let few : turns_between l.from l.by v ≤ l.turns = few_turns l.from l.by v b.most l.turns is.grows below far in
    let of_input = subst (λ (c : Bound). c.item.side ≡ In) same is.of_input in
    let moves : Applied r (turns (moves_of_turn r on.moves l) l.by (turns_between l.from l.by v) l.from) input before end =
    subst (λ (ms : List Move). Applied r ms input before end) (sym (turns_all r on.moves l (turns_between l.from l.by v) prepared is.grows (omega (arith, few, is.marks)))) applied in
    let known = known_is_moves (Judged r) r (λ j. Until (with_number t j)) (moves_of_turn r on.moves l) l.by t.most l.turns (turns_between l.from l.by v) l.from v input before end (determined law r) (ends_past r t) (says_of_input r t input before v of_input gives) far known_of.near known_of.beyond in
    subst (λ (o : Option Bound). Carried (Judged r) r (turns_to r on.moves l o) input before end) (sym at) (known.1 moves)

-- something is missing for the bound, and so for the first test
first_stops : (r : Records) (t : Past) (body : ℕ → Deeds Test) (by n i : ℕ) (input before : List ℕ) (stop : Stop) → JudgedPast r (with_number t i) input before (Err stop)
    → Carried (Judged r) r (turns_from (λ j. Until (with_number t j)) body by n i) input before (stopped stop before)
first_stops r t body by zero i input before stop is = inr (inr (stop, is, refl))
first_stops r t body by (suc n) i input before stop is = inr (inr (stop, is, refl))

pub loop_stopped : (r : Records) (on : FlowSupport) (l : CountedLoop) (b : Bound) (input before : List ℕ) (stop : Stop) → slice_get on.bounds l.bound ≡ Some b → JudgedPast r (past_bound r b 0) input before (Err stop)
    → Carried (Judged r) r (loop_done r on (Some l)) input before (stopped stop before)
loop_stopped r on l b input before stop at is =
    subst (λ (o : Option Bound). Carried (Judged r) r (turns_to r on.moves l o) input before (stopped stop before)) (sym at)
    (first_stops r (past_bound r b 0) (λ number. Moving (moves_of_turn r on.moves l number) Nothing) l.by l.turns l.from input before stop is)
