-- Flows carried out one behind another, and what is done.
use Rattle.std.proofs.Common.{◌≡◌, ℕ, zero, suc, ◌+◌, ◌<◌, ◌≤◌, Bool, true, false, List, [], ◌∷◌, ◌++◌, drop, get_or, length, take, refl, sym, ap, subst, ◌∙◌, arith, inl, inr, append_assoc, append-nil, length-append, length-drop, Ok, Err, Option, Some, nat_lt}
use Rattle.std.specs.List.{AllByRecursion, slice_get}
use Rattle.std.proofs.lemmas.List.{drop-append-le, length-take-le, take-append-drop}
use Rattle.std.proofs.lemmas.Option.{same_Some, slice_get_read, slice_get_within}
use Rattle.cob_move_data.specs.Moves.{Move, Records}
use Rattle.cob_move_apply.specs.Applied.{Applied, Ending, done, stopped}
use Rattle.cob_move_apply.specs.Marked.{moves_between_marks}
use Rattle.cob_move_apply.specs.declared.stop.Stop.{Stop}
use Rattle.cob_move_condition.specs.declared.condition.Condition as code
use Rattle.cob_move_condition.specs.Conditions.{condition_of}
use Rattle.cob_move_deeds.specs.declared.flow.Bound.{Bound}
use Rattle.cob_move_deeds.specs.declared.flow.CountedLoop.{CountedLoop}
use Rattle.cob_move_deeds.specs.declared.flow.Flow.{Flow}
use Rattle.cob_move_deeds.specs.declared.flow.Flow.TheVariants as flow
use Rattle.cob_move_deeds.specs.Carrying.{LeavesFlows, StopsFlows, carried_from, either_holds, either_way}
use Rattle.cob_move_deeds.specs.Deeds.{Carried, Choice, Deeds, Nothing, Then, both_deeds}
use Rattle.cob_move_deeds.specs.Flows.{AreNestedFlows, FlowSupport, IsFlow, IsLoop, behind_skip, deeds_from, loop_done, sender_at, unless_past, where_holds}
use Rattle.cob_move_deeds.specs.Tests.{BoundGives, Holds, IsBound, Judged, JudgedPast, Past, Test, Until, past_bound, with_number}
use Rattle.cob_move_deeds.proofs.SkipLemmas.{all_behind_skip, behind_fewer, skip_behind, skip_parts, skip_within}
use Rattle.cob_move_deeds.proofs.DeedLemmas.{both_apart, both_together, then_back, then_done, then_map, to_nothing, with_nothing}

-- ---- a flow carried out

-- moves, and what is left
pub moves_leave : (r : Records) (on : FlowSupport) (number : ℕ) (more : List Flow) (input before after : List ℕ) → Applied r (moves_between_marks r on.moves number (number + 1)) input before (done after)
    → LeavesFlows r on (flow.Moves number ∷ more) more input before after
moves_leave r on number more input before after made zero le = absurd (omega (arith, le))
moves_leave r on number more input before after made (suc n) le = (n, omega (arith, le), λ end x. inl (after, made, x))

pub moves_stop : (r : Records) (on : FlowSupport) (number : ℕ) (more : List Flow) (input before after : List ℕ) (stop : Stop) → Applied r (moves_between_marks r on.moves number (number + 1)) input before (stopped stop after)
    → StopsFlows r on (flow.Moves number ∷ more) input before stop after
moves_stop r on number more input before after stop made zero le = absurd (omega (arith, le))
moves_stop r on number more input before after stop made (suc n) le = inr (stop, after, made, refl)

-- a loop
pub turns_leave : (r : Records) (on : FlowSupport) (number : ℕ) (more : List Flow) (l : CountedLoop) (input before after : List ℕ) → slice_get on.loops number ≡ Some l → Carried (Judged r) r (loop_done r on (Some l)) input before (done after)
    → LeavesFlows r on (flow.Turns number ∷ more) more input before after
turns_leave r on number more l input before after at made zero le = absurd (omega (arith, le))
turns_leave r on number more l input before after at made (suc n) le = (
  n,
  omega (arith, le),
  λ end x. both_together (Judged r) r (loop_done r on (slice_get on.loops number)) (carried_from r on n more) input before end
      (inl (after, subst (λ (o : Option CountedLoop). Carried (Judged r) r (loop_done r on o) input before (done after)) (sym at) made, x)),
)

pub turns_stop : (r : Records) (on : FlowSupport) (number : ℕ) (more : List Flow) (l : CountedLoop) (input before after : List ℕ) (stop : Stop) → slice_get on.loops number ≡ Some l
    → Carried (Judged r) r (loop_done r on (Some l)) input before (stopped stop after) → StopsFlows r on (flow.Turns number ∷ more) input before stop after
turns_stop r on number more l input before after stop at made zero le = absurd (omega (arith, le))
turns_stop r on number more l input before after stop at made (suc n) le =
    both_together (Judged r) r (loop_done r on (slice_get on.loops number)) (carried_from r on n more) input before (stopped stop after)
    (inr (stop, after, subst (λ (o : Option CountedLoop). Carried (Judged r) r (loop_done r on o) input before (stopped stop after)) (sym at) made, refl))

-- a test
pub judged_by : (r : Records) (t : Past) (input before : List ℕ) (v j : ℕ) → BoundGives r t input before v → JudgedPast r (with_number t j) input before (Ok (nat_lt v j))
judged_by r t input before v j (p, i, located, kind, says) = inr (p, i, located, kind, (v, says, refl))

pub past_leaves : (r : Records) (on : FlowSupport) (bound number skip : ℕ) (more left : List Flow) (b : Bound) (input before : List ℕ) (v : ℕ) → slice_get on.bounds bound ≡ Some b → BoundGives r (past_bound r b 0) input before v
    → nat_lt v number ≡ true → left ≡ drop skip more → LeavesFlows r on (flow.Until bound number skip ∷ more) left input before before
past_leaves r on bound number skip more left b input before v at gives past same zero le = absurd (omega (arith, le))
past_leaves r on bound number skip more left b input before v at gives past same (suc n) le = (
  n,
  omega (arith, le, ap length same, length-drop skip more),
  λ end x. subst (λ (o : Option Bound). Carried (Judged r) r (either_way r o number (carried_from r on n (drop skip more)) (carried_from r on n more)) input before end) (sym at)
      (inl (
        subst (λ (a : Bool). JudgedPast r (past_bound r b number) input before (Ok a)) past (judged_by r (past_bound r b 0) input before v number gives),
        with_nothing (Judged r) r (carried_from r on n (drop skip more)) input before end (subst (λ (fs : List Flow). Carried (Judged r) r (carried_from r on n fs) input before end) same x),
      )),
)

pub not_past_leaves : (r : Records) (on : FlowSupport) (bound number skip : ℕ) (more : List Flow) (b : Bound) (input before : List ℕ) (v : ℕ) → slice_get on.bounds bound ≡ Some b → BoundGives r (past_bound r b 0) input before v
    → nat_lt v number ≡ false → LeavesFlows r on (flow.Until bound number skip ∷ more) more input before before
not_past_leaves r on bound number skip more b input before v at gives past zero le = absurd (omega (arith, le))
not_past_leaves r on bound number skip more b input before v at gives past (suc n) le = (
  n,
  omega (arith, le),
  λ end x. subst (λ (o : Option Bound). Carried (Judged r) r (either_way r o number (carried_from r on n (drop skip more)) (carried_from r on n more)) input before end) (sym at)
      (inr (inl (
        subst (λ (a : Bool). JudgedPast r (past_bound r b number) input before (Ok a)) past (judged_by r (past_bound r b 0) input before v number gives),
        with_nothing (Judged r) r (carried_from r on n more) input before end x,
      ))),
)

pub test_stops : (r : Records) (on : FlowSupport) (bound number skip : ℕ) (more : List Flow) (b : Bound) (input before : List ℕ) (stop : Stop) → slice_get on.bounds bound ≡ Some b
    → JudgedPast r (past_bound r b 0) input before (Err stop) → StopsFlows r on (flow.Until bound number skip ∷ more) input before stop before
test_stops r on bound number skip more b input before stop at is zero le = absurd (omega (arith, le))
test_stops r on bound number skip more b input before stop at is (suc n) le =
    subst (λ (o : Option Bound). Carried (Judged r) r (either_way r o number (carried_from r on n (drop skip more)) (carried_from r on n more)) input before (stopped stop before)) (sym at) (inr (inr (stop, is, refl)))

-- a condition that holds
pub holds_leaves : (r : Records) (on : FlowSupport) (condition holding lacking : ℕ) (more : List Flow) (c : code.Condition) (input before : List ℕ) → slice_get on.conditions condition ≡ Some c
    → Judged r (Holds (condition_of (sender_at r on) c)) input before (Ok true) → LeavesFlows r on (flow.Where condition holding lacking ∷ more) more input before before
holds_leaves r on condition holding lacking more c input before at is zero le = absurd (omega (arith, le))
holds_leaves r on condition holding lacking more c input before at is (suc n) le = (
  n,
  omega (arith, le),
  λ end x. subst (λ (o : Option code.Condition). Carried (Judged r) r (either_holds r on o (carried_from r on n more) (carried_from r on n (behind_skip holding more))) input before end) (sym at)
      (inl (is, with_nothing (Judged r) r (carried_from r on n more) input before end x)),
)

-- one that doesn't
pub lacks_leaves : (r : Records) (on : FlowSupport) (condition holding lacking : ℕ) (more left : List Flow) (c : code.Condition) (input before : List ℕ) → slice_get on.conditions condition ≡ Some c
    → Judged r (Holds (condition_of (sender_at r on) c)) input before (Ok false) → left ≡ behind_skip holding more → LeavesFlows r on (flow.Where condition holding lacking ∷ more) left input before before
lacks_leaves r on condition holding lacking more left c input before at is same zero le = absurd (omega (arith, le))
lacks_leaves r on condition holding lacking more left c input before at is same (suc n) le = (
  n,
  omega (arith, le, ap length same, behind_fewer holding more),
  λ end x. subst (λ (o : Option code.Condition). Carried (Judged r) r (either_holds r on o (carried_from r on n more) (carried_from r on n (behind_skip holding more))) input before end) (sym at)
      (inr (inl (
        is,
        with_nothing (Judged r) r (carried_from r on n (behind_skip holding more)) input before end (subst (λ (fs : List Flow). Carried (Judged r) r (carried_from r on n fs) input before end) same x),
      ))),
)

-- one for which something is missing
pub condition_stops : (r : Records) (on : FlowSupport) (condition holding lacking : ℕ) (more : List Flow) (c : code.Condition) (input before : List ℕ) (stop : Stop) → slice_get on.conditions condition ≡ Some c
    → Judged r (Holds (condition_of (sender_at r on) c)) input before (Err stop) → StopsFlows r on (flow.Where condition holding lacking ∷ more) input before stop before
condition_stops r on condition holding lacking more c input before stop at is zero le = absurd (omega (arith, le))
condition_stops r on condition holding lacking more c input before stop at is (suc n) le =
    subst (λ (o : Option code.Condition). Carried (Judged r) r (either_holds r on o (carried_from r on n more) (carried_from r on n (behind_skip holding more))) input before (stopped stop before)) (sym at)
    (inr (inr (stop, is, refl)))

-- a skip
pub skip_leaves : (r : Records) (on : FlowSupport) (count : ℕ) (more left : List Flow) (input before : List ℕ) → left ≡ drop count more → LeavesFlows r on (flow.Skip count ∷ more) left input before before
skip_leaves r on count more left input before same zero le = absurd (omega (arith, le))
skip_leaves r on count more left input before same (suc n) le =
    (n, omega (arith, le, ap length same, length-drop count more), λ end x. subst (λ (fs : List Flow). Carried (Judged r) r (carried_from r on n fs) input before end) same x)

-- ---- flows one behind another

pub leaves_on : (r : Records) (on : FlowSupport) (all left next : List Flow) (input before now after : List ℕ) → LeavesFlows r on all left input before now → LeavesFlows r on left next input now after
    → LeavesFlows r on all next input before after
leaves_on r on all left next input before now after so one n le =
    let (m, few, back) = so n le in
    let (k, fewer, came) = one m few in
    (k, fewer, λ end x. back end (came end x))

pub stops_on : (r : Records) (on : FlowSupport) (all left : List Flow) (input before now after : List ℕ) (stop : Stop) → LeavesFlows r on all left input before now → StopsFlows r on left input now stop after
    → StopsFlows r on all input before stop after
stops_on r on all left input before now after stop so one n le =
    let (m, few, back) = so n le in
    back (stopped stop after) (one m few)

pub leaves_first : (r : Records) (on : FlowSupport) (all : List Flow) (input before : List ℕ) → LeavesFlows r on all all input before before
leaves_first r on all input before n le = (n, le, λ end x. x)

pub none_carried : (r : Records) (on : FlowSupport) (n : ℕ) → carried_from r on n [] ≡ Nothing
none_carried r on zero = refl
none_carried r on (suc n) = refl

pub leaves_none : (r : Records) (on : FlowSupport) (all left : List Flow) (input before now : List ℕ) → left ≡ [] → LeavesFlows r on all left input before now
    → Carried (Judged r) r (carried_from r on (length all) all) input before (done now)
leaves_none r on all left input before now none so =
    let (m, few, back) = so (length all) (omega arith) in
    back (done now)
    (subst (λ (d : Deeds Test). Carried (Judged r) r d input now (done now)) (sym (ap (λ (fs : List Flow). carried_from r on m fs) none ∙ none_carried r on m)) refl)

pub flows_none : (fs : List Flow) → length fs ≤ 0 → fs ≡ []
flows_none [] none = refl
flows_none (f ∷ fs) none = absurd (omega (arith, none))

-- each flow that is left is one of them
pub all_behind : (P : Flow → Type 0) (n : ℕ) (fs : List Flow) → AllByRecursion P fs → AllByRecursion P (drop n fs)
all_behind P zero fs all = all
all_behind P (suc n) [] all = all
all_behind P (suc n) (f ∷ fs) all = all_behind P n fs all.1

-- ---- what flows come to as they are carried out, and what is done

-- others come to this end from a storage
abbrev pub GoOn : Records → FlowSupport → List Flow → List ℕ → List ℕ → Ending → Type 0
GoOn r on others input after last = (m : ℕ) × (length others ≤ m) × Carried (Judged r) r (carried_from r on m others) input after last

-- each flow in front is one of them
pub all_front : (P : Flow → Type 0) (n : ℕ) (fs : List Flow) → AllByRecursion P fs → AllByRecursion P (take n fs)
all_front P zero fs all = tt
all_front P (suc n) [] all = all
all_front P (suc n) (f ∷ fs) all = (all.0, all_front P n fs all.1)

-- a test, with what it passes over and what stands behind that
test_apart : (r : Records) (on : FlowSupport) (n k number skip : ℕ) (fs others : List Flow) (b : Bound) (input before : List ℕ) (end : Ending) → skip ≤ length fs
    → (Carried (Judged r) r (carried_from r on k (drop skip fs ++ others)) input before end → Then (λ e. Carried (Judged r) r (deeds_from r on n (drop skip fs)) input before e) (λ after last. GoOn r on others input after last) end)
    → (Carried (Judged r) r (carried_from r on k (take skip fs ++ (drop skip fs ++ others))) input before end
    → Then (λ e. Carried (Judged r) r (deeds_from r on n (take skip fs)) input before e) (λ after last. GoOn r on (drop skip fs ++ others) input after last) end)
    → ((m : ℕ) (after : List ℕ) (last : Ending) → length (drop skip fs ++ others) ≤ m → Carried (Judged r) r (carried_from r on m (drop skip fs ++ others)) input after last
    → Then (λ e. Carried (Judged r) r (deeds_from r on n (drop skip fs)) input after e) (λ s t. GoOn r on others input s t) last)
    → Carried (Judged r) r (either_way r (Some b) number (carried_from r on k (drop skip (fs ++ others))) (carried_from r on k (fs ++ others))) input before end
    → Then (λ e. Carried (Judged r) r (unless_past r (Some b) number (deeds_from r on n (take skip fs)) (deeds_from r on n (drop skip fs))) input before e) (λ after last. GoOn r on others input after last) end
test_apart r on n k number skip fs others b input before end within past inside behind (inl (is, x)) =
    let d : Deeds Test = deeds_from r on n (drop skip fs) in
    let all : Deeds Test = Choice (Until (past_bound r b number)) Nothing (deeds_from r on n (take skip fs)) d in
    let here = to_nothing (Judged r) r (carried_from r on k (drop skip (fs ++ others))) input before end x in
    then_map (λ e. Carried (Judged r) r d input before e) (λ e. Carried (Judged r) r all input before e) (λ after last. GoOn r on others input after last) (λ after last. GoOn r on others input after last) end
    (λ e y. inl (is, then_done before (λ after last. Carried (Judged r) r d input after last) e y)) (λ after e y. y)
    (past (subst (λ (gs : List Flow). Carried (Judged r) r (carried_from r on k gs) input before end) (drop-append-le skip fs others within) here))
test_apart r on n k number skip fs others b input before end within past inside behind (inr (inl (is, x))) =
    let front : Deeds Test = deeds_from r on n (take skip fs) in
    let d : Deeds Test = deeds_from r on n (drop skip fs) in
    let all : Deeds Test = Choice (Until (past_bound r b number)) Nothing front d in
    let here = to_nothing (Judged r) r (carried_from r on k (fs ++ others)) input before end x in
    let cut : fs ++ others ≡ take skip fs ++ (drop skip fs ++ others) = ap (λ (gs : List Flow). gs ++ others) (sym (take-append-drop skip fs)) ∙ append_assoc (take skip fs) (drop skip fs) others in
    then_map (λ e. Then (λ k. Carried (Judged r) r front input before k) (λ after last. Carried (Judged r) r d input after last) e) (λ e. Carried (Judged r) r all input before e)
    (λ after last. GoOn r on others input after last) (λ after last. GoOn r on others input after last) end (λ e y. inr (inl (is, y))) (λ after e y. y)
    (then_back (λ e. Carried (Judged r) r front input before e) (λ after last. Carried (Judged r) r d input after last) (λ after last. GoOn r on others input after last) end
    (then_map (λ e. Carried (Judged r) r front input before e) (λ e. Carried (Judged r) r front input before e) (λ after last. GoOn r on (drop skip fs ++ others) input after last)
    (λ after last. Then (λ e. Carried (Judged r) r d input after e) (λ s t. GoOn r on others input s t) last) end (λ e y. y)
    (λ after e (m, few, y). behind m after e few y)
    (inside (subst (λ (gs : List Flow). Carried (Judged r) r (carried_from r on k gs) input before end) cut here))))
test_apart r on n k number skip fs others b input before end within past inside behind (inr (inr (stop, is, e))) = inr (stop, before, inr (inr (stop, is, refl)), e)

-- What is done in front goes on with flows that come to what is done behind it, and then to the others.
parts_apart : (r : Records) (on : FlowSupport) (front d : Deeds Test) (rest others : List Flow) (input before : List ℕ) (end : Ending)
    → ((m : ℕ) (after : List ℕ) (last : Ending) → length rest ≤ m → Carried (Judged r) r (carried_from r on m rest) input after last
    → Then (λ e. Carried (Judged r) r d input after e) (λ s t. GoOn r on others input s t) last)
    → Then (λ e. Carried (Judged r) r front input before e) (λ after last. GoOn r on rest input after last) end
    → Then (λ e. Then (λ k. Carried (Judged r) r front input before k) (λ after last. Carried (Judged r) r d input after last) e) (λ after last. GoOn r on others input after last) end
parts_apart r on front d rest others input before end behind x =
    then_back (λ e. Carried (Judged r) r front input before e) (λ after last. Carried (Judged r) r d input after last) (λ after last. GoOn r on others input after last) end
    (then_map (λ e. Carried (Judged r) r front input before e) (λ e. Carried (Judged r) r front input before e) (λ after last. GoOn r on rest input after last)
    (λ after last. Then (λ e. Carried (Judged r) r d input after e) (λ s t. GoOn r on others input s t) last) end (λ e y. y)
    (λ after e (m, few, y). behind m after e few y) x)

-- a condition, with both branches and what stands behind them
where_apart : (r : Records) (on : FlowSupport) (c : code.Condition) (holding lacking d here there : Deeds Test) (held lacked others : List Flow) (input before : List ℕ) (end : Ending)
    → (Carried (Judged r) r here input before end → Then (λ e. Carried (Judged r) r holding input before e) (λ after last. GoOn r on held input after last) end)
    → (Carried (Judged r) r there input before end → Then (λ e. Carried (Judged r) r lacking input before e) (λ after last. GoOn r on lacked input after last) end)
    → ((m : ℕ) (after : List ℕ) (last : Ending) → length held ≤ m → Carried (Judged r) r (carried_from r on m held) input after last
    → Then (λ e. Carried (Judged r) r d input after e) (λ s t. GoOn r on others input s t) last)
    → ((m : ℕ) (after : List ℕ) (last : Ending) → length lacked ≤ m → Carried (Judged r) r (carried_from r on m lacked) input after last
    → Then (λ e. Carried (Judged r) r d input after e) (λ s t. GoOn r on others input s t) last)
    → Carried (Judged r) r (either_holds r on (Some c) here there) input before end
    → Then (λ e. Carried (Judged r) r (where_holds r on (Some c) holding lacking d) input before e) (λ after last. GoOn r on others input after last) end
where_apart r on c holding lacking d here there held lacked others input before end first second one other (inl (is, x)) =
    let all : Deeds Test = where_holds r on (Some c) holding lacking d in
    then_map (λ e. Then (λ k. Carried (Judged r) r holding input before k) (λ after last. Carried (Judged r) r d input after last) e) (λ e. Carried (Judged r) r all input before e)
    (λ after last. GoOn r on others input after last) (λ after last. GoOn r on others input after last) end (λ e y. inl (is, y)) (λ after e y. y)
    (parts_apart r on holding d held others input before end one (first (to_nothing (Judged r) r here input before end x)))
where_apart r on c holding lacking d here there held lacked others input before end first second one other (inr (inl (is, x))) =
    let all : Deeds Test = where_holds r on (Some c) holding lacking d in
    then_map (λ e. Then (λ k. Carried (Judged r) r lacking input before k) (λ after last. Carried (Judged r) r d input after last) e) (λ e. Carried (Judged r) r all input before e)
    (λ after last. GoOn r on others input after last) (λ after last. GoOn r on others input after last) end (λ e y. inr (inl (is, y))) (λ after e y. y)
    (parts_apart r on lacking d lacked others input before end other (second (to_nothing (Judged r) r there input before end x)))
where_apart r on c holding lacking d here there held lacked others input before end first second one other (inr (inr (stop, is, e))) = inr (stop, before, inr (inr (stop, is, refl)), e)

-- flows that begin with a skip go on behind it
skip_on : (r : Records) (on : FlowSupport) (count m : ℕ) (more : List Flow) (input after : List ℕ) (last : Ending) → length (flow.Skip count ∷ more) ≤ m → Carried (Judged r) r (carried_from r on m (flow.Skip count ∷ more)) input after last
    → (k : ℕ) × (length more ≤ k) × Carried (Judged r) r (carried_from r on k (drop count more)) input after last
skip_on r on count zero more input after last few x = absurd (omega (arith, few))
skip_on r on count (suc k) more input after last few x = (k, omega (arith, few), x)

pub flows_apart : (r : Records) (on : FlowSupport) (n k : ℕ) (fs others : List Flow) (input before : List ℕ) (end : Ending) → AllByRecursion (IsFlow on) fs → AreNestedFlows n fs → length fs ≤ n → length (fs ++ others) ≤ k
    → Carried (Judged r) r (carried_from r on k (fs ++ others)) input before end
    → Then (λ e. Carried (Judged r) r (deeds_from r on n fs) input before e) (λ after last. GoOn r on others input after last) end
flows_apart r on zero k [] others input before end each nested few le x = then_done before (λ after last. GoOn r on others input after last) end (k, le, x)
flows_apart r on zero k (f ∷ fs) others input before end each nested few le x = absurd (omega (arith, few))
flows_apart r on (suc n) k [] others input before end each nested few le x = then_done before (λ after last. GoOn r on others input after last) end (k, le, x)
flows_apart r on (suc n) zero (f ∷ fs) others input before end each nested few le x = absurd (omega (arith, le))
flows_apart r on (suc n) (suc k) (flow.Moves number ∷ fs) others input before end each nested few le x =
    let ms : List Move = moves_between_marks r on.moves number (number + 1) in
    then_back (λ e. Applied r ms input before e) (λ after last. Carried (Judged r) r (deeds_from r on n fs) input after last) (λ after last. GoOn r on others input after last) end
    (then_map (λ e. Applied r ms input before e) (λ e. Applied r ms input before e) (λ after last. Carried (Judged r) r (carried_from r on k (fs ++ others)) input after last)
    (λ after last. Then (λ e. Carried (Judged r) r (deeds_from r on n fs) input after e) (λ s t. GoOn r on others input s t) last) end
    (λ e y. y) (λ after e y. flows_apart r on n k fs others input after e each.1 nested (omega (arith, few)) (omega (arith, le)) y) x)
flows_apart r on (suc n) (suc k) (flow.Turns number ∷ fs) others input before end each nested few le x =
    let d : Deeds Test = loop_done r on (slice_get on.loops number) in
    then_map (λ e. Then (λ e. Carried (Judged r) r d input before e) (λ after last. Carried (Judged r) r (deeds_from r on n fs) input after last) e) (λ e. Carried (Judged r) r (both_deeds d (deeds_from r on n fs)) input before e)
    (λ after last. GoOn r on others input after last) (λ after last. GoOn r on others input after last) end
    (λ e y. both_together (Judged r) r d (deeds_from r on n fs) input before e y) (λ after e y. y)
    (then_back (λ e. Carried (Judged r) r d input before e) (λ after last. Carried (Judged r) r (deeds_from r on n fs) input after last) (λ after last. GoOn r on others input after last) end
    (then_map (λ e. Carried (Judged r) r d input before e) (λ e. Carried (Judged r) r d input before e) (λ after last. Carried (Judged r) r (carried_from r on k (fs ++ others)) input after last)
    (λ after last. Then (λ e. Carried (Judged r) r (deeds_from r on n fs) input after e) (λ s t. GoOn r on others input s t) last) end
    (λ e y. y) (λ after e y. flows_apart r on n k fs others input after e each.1 nested (omega (arith, few)) (omega (arith, le)) y)
    (both_apart (Judged r) r d (carried_from r on k (fs ++ others)) input before end x)))
flows_apart r on (suc n) (suc k) (flow.Until bound number skip ∷ fs) others input before end each nested few le x =
    let (b, at) = each.0 in
    let (within, inside, behind) = nested in
    subst (λ (o : Option Bound). Then (λ e. Carried (Judged r) r (unless_past r o number (deeds_from r on n (take skip fs)) (deeds_from r on n (drop skip fs))) input before e) (λ after last. GoOn r on others input after last) end) (sym at)
    (test_apart r on n k number skip fs others b input before end within
    (λ y. flows_apart r on n k (drop skip fs) others input before end (all_behind (IsFlow on) skip fs each.1) behind (omega (arith, few, length-drop skip fs)) (omega (arith, le, length-append fs others, length-append (drop skip fs) others, length-drop skip fs)) y)
    (λ y. flows_apart r on n k (take skip fs) (drop skip fs ++ others) input before end (all_front (IsFlow on) skip fs each.1) inside (omega (arith, few, length-take-le skip fs within, within))
    (omega (arith, le, length-append fs others, length-append (take skip fs) (drop skip fs ++ others), length-append (drop skip fs) others, length-drop skip fs, length-take-le skip fs within, within)) y)
    (λ m after last few_left y. flows_apart r on n m (drop skip fs) others input after last (all_behind (IsFlow on) skip fs each.1) behind (omega (arith, few, length-drop skip fs)) few_left y)
    (subst (λ (o : Option Bound). Carried (Judged r) r (either_way r o number (carried_from r on k (drop skip (fs ++ others))) (carried_from r on k (fs ++ others))) input before end) at x))
flows_apart r on (suc n) (suc k) (flow.Where condition holding lacking ∷ fs) others input before end each (skip, within, inside, skipped, behind) few le x =
    let (c, at) = each.0 in
    let count = skip_within holding lacking fs skip in
    let left : List Flow = behind_skip holding fs in
    let all = all_behind_skip (IsFlow on) holding fs (all_behind (IsFlow on) holding fs each.1) in
    let held : List Flow = flow.Skip lacking ∷ (left ++ others) in
    let lacked : List Flow = drop lacking left ++ others in
    let cut : left ++ others ≡ take lacking left ++ lacked = ap (λ (gs : List Flow). gs ++ others) (sym (take-append-drop lacking left)) ∙ append_assoc (take lacking left) (drop lacking left) others in
    let go_on : (m : ℕ) (after : List ℕ) (last : Ending) → length lacked ≤ m → Carried (Judged r) r (carried_from r on m lacked) input after last
    → Then (λ e. Carried (Judged r) r (deeds_from r on n (drop lacking left)) input after e) (λ s t. GoOn r on others input s t) last =
    λ m after last few_left y. flows_apart r on n m (drop lacking left) others input after last (all_behind (IsFlow on) lacking left all) behind (omega (arith, few, count, length-drop lacking left)) few_left y in
    subst (λ (o : Option code.Condition). Then (λ e. Carried (Judged r) r (where_holds r on o (deeds_from r on n (take holding fs)) (deeds_from r on n (take lacking left)) (deeds_from r on n (drop lacking left))) input before e) (λ after last. GoOn r on others input after last) end) (sym at)
    (where_apart r on c (deeds_from r on n (take holding fs)) (deeds_from r on n (take lacking left)) (deeds_from r on n (drop lacking left))
    (carried_from r on k (fs ++ others)) (carried_from r on k (behind_skip holding (fs ++ others))) held lacked others input before end
    (λ y. flows_apart r on n k (take holding fs) held input before end (all_front (IsFlow on) holding fs each.1) inside (omega (arith, few, count, length-take-le holding fs (within_all holding fs left count)))
    (omega (arith, le, ap length (skip_parts holding lacking fs others skip)))
    (subst (λ (gs : List Flow). Carried (Judged r) r (carried_from r on k gs) input before end) (skip_parts holding lacking fs others skip) y))
    (λ y. flows_apart r on n k (take lacking left) lacked input before end (all_front (IsFlow on) lacking left all) skipped (omega (arith, few, count, length-take-le lacking left within, within))
    (omega (arith, le, count, length-append fs others, length-append left others, ap length cut))
    (subst (λ (gs : List Flow). Carried (Judged r) r (carried_from r on k gs) input before end) (skip_behind holding lacking fs others skip ∙ cut) y))
    (λ m after last few_left y.
    let (j, long, z) = skip_on r on lacking m (left ++ others) input after last few_left y in
    go_on j after last (omega (arith, long, length-append left others, length-append (drop lacking left) others, length-drop lacking left))
    (subst (λ (gs : List Flow). Carried (Judged r) r (carried_from r on j gs) input after last) (drop-append-le lacking left others within) z))
    go_on
    (subst (λ (o : Option code.Condition). Carried (Judged r) r (either_holds r on o (carried_from r on k (fs ++ others)) (carried_from r on k (behind_skip holding (fs ++ others)))) input before end) at x))
  where
    within_all : (h : ℕ) (gs left : List Flow) → h + 1 + length left ≡ length gs → h ≤ length gs
    within_all h gs left e = omega (arith, e)
flows_apart r on (suc n) (suc k) (flow.Skip count ∷ fs) others input before end each nested few le x = absurd nested

-- flows that are nested go to what is done
pub flows_carried : (r : Records) (on : FlowSupport) (fs : List Flow) (input before : List ℕ) (end : Ending) → AllByRecursion (IsFlow on) fs → AreNestedFlows (length fs) fs
    → Carried (Judged r) r (carried_from r on (length fs) fs) input before end → Carried (Judged r) r (deeds_from r on (length fs) fs) input before end
flows_carried r on fs input before end each nested x =
    let whole : fs ++ [] ≡ fs = append-nil fs in
    let long : length (fs ++ []) ≤ length fs = omega (arith, ap length whole) in
    to_nothing (Judged r) r (deeds_from r on (length fs) fs) input before end
    (then_map (λ e. Carried (Judged r) r (deeds_from r on (length fs) fs) input before e) (λ e. Carried (Judged r) r (deeds_from r on (length fs) fs) input before e)
    (λ after last. GoOn r on [] input after last) (λ after last. Carried (Judged r) r Nothing input after last) end (λ e y. y)
    (λ after e (m, few, y). subst (λ (d : Deeds Test). Carried (Judged r) r d input after e) (none_carried r on m) y)
    (flows_apart r on (length fs) (length fs) fs [] input before end each nested (omega arith) long
    (subst (λ (gs : List Flow). Carried (Judged r) r (carried_from r on (length fs) gs) input before end) (sym whole) x)))

-- the bound with a number is one that is ready
pub all_at : (r : Records) (n : ℕ) (bs : List Bound) (b : Bound) → n < length bs → b ≡ get_or bs n b → AllByRecursion (IsBound r) bs → IsBound r b
all_at r n [] b lt is all = absurd (omega (arith, lt))
all_at r zero (x ∷ bs) b lt is all = subst (λ (k : Bound). IsBound r k) (sym is) all.0
all_at r (suc n) (x ∷ bs) b lt is all = all_at r n bs b (omega (arith, lt)) is all.1

-- the loop with a number is the one that is read
pub there : (on : FlowSupport) (n : ℕ) (l one : CountedLoop) → slice_get on.loops n ≡ Some l → one ≡ get_or on.loops n one → slice_get on.loops n ≡ Some one
there on n l one at is = slice_get_read on.loops (length on.loops) n one refl (slice_get_within on.loops n l at) is

pub loop_here : (on : FlowSupport) (n : ℕ) (l one : CountedLoop) → slice_get on.loops n ≡ Some l → IsLoop on l → one ≡ get_or on.loops n one → IsLoop on one
loop_here on n l one at is read = subst (λ (k : CountedLoop). IsLoop on k) (same_Some l one (sym at ∙ there on n l one at read)) is
