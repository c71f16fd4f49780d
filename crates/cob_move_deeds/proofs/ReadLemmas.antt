-- How many counts are read as flows are carried out: receivers of deeds, one flow behind another.
use Rattle.std.proofs.Common.{◌≡◌, ℕ, zero, suc, ◌+◌, ◌*◌, ◌<◌, ◌≤◌, Bool, true, false, List, [], ◌∷◌, ◌++◌, drop, length, nat_lt, take, refl, sym, ap, subst, ◌∙◌, arith, inl, inr, append_assoc, append-nil, length-append, length-drop, Ok, Err, Result, Option, Some}
use Rattle.std.specs.List.{AllByRecursion, slice_get}
use Rattle.std.proofs.lemmas.List.{drop-append-le, length-take-le, take-append-drop}
use Rattle.std.proofs.Math.Nat.{mul-add, mul_comm}
use Rattle.cob_copybook_tree.specs.Forests.{Forest}
use Rattle.cob_copybook_tree.specs.Nodes.{Resolved}
use Rattle.cob_layout_places.specs.Counts.{tables_of}
use Rattle.cob_move_data.specs.declared.operands.Side.TheVariants.{In}
use Rattle.cob_move_data.specs.Moves.{Move, Records}
use Rattle.cob_move_apply.specs.Applied.{Applied, OneEnding, done}
use Rattle.cob_move_apply.specs.Marked.{AreMarkedPrepared, moves_between_marks}
use Rattle.cob_move_apply.specs.Met.{HaveMet}
use Rattle.cob_move_apply.specs.Reads.{ReadsFor, ReadsOfMoves, kept_among}
use Rattle.cob_move_apply.specs.Room.{Scratching}
use Rattle.cob_move_apply.specs.declared.stop.Stop.{Stop}
use Rattle.cob_move_apply.proofs.ReadsLemmas.{most_kept_among}
use Rattle.cob_move_apply.proofs.SpentLemmas.{allowed_both, allowed_none}
use Rattle.cob_move_loops.specs.Turns.{turns, turns_between}
use Rattle.cob_move_condition.specs.declared.condition.Condition as code
use Rattle.cob_move_condition.specs.Conditions.{condition_of}
use Rattle.cob_move_deeds.specs.declared.flow.Bound.{Bound}
use Rattle.cob_move_deeds.specs.declared.flow.CountedLoop.{CountedLoop}
use Rattle.cob_move_deeds.specs.declared.flow.Flow.{Flow}
use Rattle.cob_move_deeds.specs.declared.flow.Flow.TheVariants as flow
use Rattle.cob_move_deeds.specs.Carrying.{FlowSpends, FlowSpendsAtStop, MeetFlows, MetFlows, carried_from, either_holds, either_way}
use Rattle.cob_move_deeds.specs.Deeds.{Carried, Choice, Deeds, Moving, Nothing, both_deeds}
use Rattle.cob_move_deeds.specs.Flows.{AreNestedFlows, FlowSupport, IsFlow, IsLoop, behind_skip, deeds_from, loop_done, moves_of_turn, sender_at, turns_to, unless_past, where_holds}
use Rattle.cob_move_deeds.specs.Laws.{TestLaws}
use Rattle.cob_move_deeds.specs.Met.{DeedsHaveMet, MetThen, ReadsOfDeeds}
use Rattle.cob_move_deeds.specs.Tests.{BoundGives, Holds, Judged, JudgedPast, Past, Test, Until, past_bound, with_number}
use Rattle.cob_move_deeds.specs.Turns.{number_after}
use Rattle.cob_move_deeds.proofs.SkipLemmas.{all_behind_skip, behind_fewer, skip_behind, skip_parts, skip_within}
use Rattle.cob_move_deeds.proofs.DeedLemmas.{both_together}
use Rattle.cob_move_deeds.proofs.FlowLemmas.{all_behind, all_front, none_carried}
use Rattle.cob_move_deeds.proofs.LoopLemmas.{either_side, few_turns, reaches, turns_all}
use Rattle.cob_move_deeds.proofs.MetLemmas.{both_met, front_met, met_apart, met_back, met_map, met_nothing, met_together, none_done, plain, turns_met}
use Rattle.cob_move_deeds.proofs.TestLemmas.{says_of_input}

-- ---- a loop

-- what met of the moves of its turns met of the loop
pub loop_met : (r : Records) (on : FlowSupport) (l : CountedLoop) (b : Bound) (v : ℕ) (input before : List ℕ) (m : ℕ) → AreMarkedPrepared r on.moves → (is : IsLoop on l) → slice_get on.bounds l.bound ≡ Some b → is.bound ≡ b
    → BoundGives r (past_bound r b 0) input before v → v ≤ b.most → HaveMet r (moves_between_marks r on.moves l.first (l.first + turns_between l.from l.by v)) input before m
    → DeedsHaveMet r (loop_done r on (Some l)) input before m
loop_met r on l b v input before m prepared is at same gives below h =
    let t : Past = past_bound r b 0 in
    let known_of = reaches l.from l.by v is.grows (either_side v l.from) in
    let far = subst (λ (c : Bound). c.most < number_after l.by l.turns l.from) same is.far in
    let few : turns_between l.from l.by v ≤ l.turns = few_turns l.from l.by v b.most l.turns is.grows below far in
    let of_input = subst (λ (c : Bound). c.item.side ≡ In) same is.of_input in
    let moves : HaveMet r (turns (moves_of_turn r on.moves l) l.by (turns_between l.from l.by v) l.from) input before m =
    subst (λ (ms : List Move). HaveMet r ms input before m) (sym (turns_all r on.moves l (turns_between l.from l.by v) prepared is.grows (omega (arith, few, is.marks)))) h in
    subst (λ (o : Option Bound). DeedsHaveMet r (turns_to r on.moves l o) input before m) (sym at)
    (turns_met r (λ j. Until (with_number t j)) (moves_of_turn r on.moves l) l.by b.most l.turns (turns_between l.from l.by v) l.from v input before m (says_of_input r t input before v of_input gives) below far known_of.near moves)

-- ---- reads, one behind another

pub reads_behind : {A : Type 0} (tree : Forest Resolved) (met : ℕ) (result : Result A Stop) (old mid new : Scratching) → ReadsFor {A = Unit {0}} tree 0 (Ok tt) old mid → ReadsFor tree met result mid new → ReadsFor tree met result old new
reads_behind tree met (Ok a) old mid new first then = omega (arith, first, then, allowed_none tree)
reads_behind tree met (Err stop) old mid new first then = omega (arith, first, then, allowed_none tree)

-- what was read on the way to something is no more than what is allowed where that is missing
pub read_so : {A B : Type 0} (tree : Forest Resolved) (met : ℕ) (a : A) (result : Result B Stop) (old new : Scratching) → ReadsFor tree met (Ok a) old new → ReadsFor tree met result old new
read_so tree met a (Ok b) old new spent = spent
read_so tree met a (Err stop) old new spent = omega (arith, spent, most_kept_among tree new.kept_output)

-- a loop whose bound was read, and then its moves
pub loop_reads : {A : Type 0} (r : Records) (on : FlowSupport) (l : CountedLoop) (b : Bound) (v k : ℕ) (input before : List ℕ) (result : Result A Stop) (old mid new : Scratching) → AreMarkedPrepared r on.moves → (is : IsLoop on l)
    → slice_get on.bounds l.bound ≡ Some b → is.bound ≡ b → BoundGives r (past_bound r b 0) input before v → v ≤ b.most → k ≡ turns_between l.from l.by v → ReadsFor {A = Unit {0}} r.output 0 (Ok tt) old mid
    → ReadsOfMoves r (moves_between_marks r on.moves l.first (l.first + k)) input before result mid new → ReadsOfDeeds r (loop_done r on (Some l)) input before result old new
loop_reads r on l b v k input before result old mid new prepared is at same gives below count first (met, have, then) = (
  met,
  loop_met r on l b v input before met prepared is at same gives below (subst (λ (n : ℕ). HaveMet r (moves_between_marks r on.moves l.first (l.first + n)) input before met) count have),
  reads_behind r.output met result old mid new first then,
)

-- a test that stopped, and nothing met
pub none_reads : {A : Type 0} (r : Records) (d : Deeds Test) (input before : List ℕ) (result : Result A Stop) (old new : Scratching) → ReadsFor r.output 0 result old new → ReadsOfDeeds r d input before result old new
none_reads r d input before result old new spent = (0, none_done r d input before, spent)

-- ---- a flow

pub meet_moves : (r : Records) (on : FlowSupport) (number : ℕ) (more : List Flow) (input before after : List ℕ) (met : ℕ) → Applied r (moves_between_marks r on.moves number (number + 1)) input before (done after)
    → HaveMet r (moves_between_marks r on.moves number (number + 1)) input before met → MeetFlows r on (flow.Moves number ∷ more) more input before after met
meet_moves r on number more input before after met made own zero le = absurd (omega (arith, le))
meet_moves r on number more input before after met made own (suc n) le = (n, omega (arith, le), λ k h. inr (after, met, k, refl, made, own, h))

pub met_moves : (r : Records) (on : FlowSupport) (number : ℕ) (more : List Flow) (input before : List ℕ) (met : ℕ) → HaveMet r (moves_between_marks r on.moves number (number + 1)) input before met
    → MetFlows r on (flow.Moves number ∷ more) input before met
met_moves r on number more input before met own zero le = absurd (omega (arith, le))
met_moves r on number more input before met own (suc n) le = inl own

meet_turns : TestLaws → OneEnding → (r : Records) (on : FlowSupport) (number : ℕ) (more : List Flow) (l : CountedLoop) (input before after : List ℕ) (met : ℕ) → slice_get on.loops number ≡ Some l
    → Carried (Judged r) r (loop_done r on (Some l)) input before (done after) → DeedsHaveMet r (loop_done r on (Some l)) input before met → MeetFlows r on (flow.Turns number ∷ more) more input before after met
meet_turns law one r on number more l input before after met at made own zero le = absurd (omega (arith, le))
meet_turns law one r on number more l input before after met at made own (suc n) le = (
  n,
  omega (arith, le),
  λ k h. subst (λ (o : Option CountedLoop). DeedsHaveMet r (both_deeds (loop_done r on o) (carried_from r on n more)) input before (met + k)) (sym at)
      (both_met law one r (loop_done r on (Some l)) (carried_from r on n more) input before after met k made own h),
)

met_turns : (r : Records) (on : FlowSupport) (number : ℕ) (more : List Flow) (l : CountedLoop) (input before : List ℕ) (met : ℕ) → slice_get on.loops number ≡ Some l → DeedsHaveMet r (loop_done r on (Some l)) input before met
    → MetFlows r on (flow.Turns number ∷ more) input before met
met_turns r on number more l input before met at own zero le = absurd (omega (arith, le))
met_turns r on number more l input before met at own (suc n) le =
    subst (λ (o : Option CountedLoop). DeedsHaveMet r (both_deeds (loop_done r on o) (carried_from r on n more)) input before met) (sym at)
    (front_met r (loop_done r on (Some l)) (carried_from r on n more) input before met own)

judged_so : (r : Records) (t : Past) (input before : List ℕ) (v j : ℕ) (b : Bool) → BoundGives r t input before v → nat_lt v j ≡ b → JudgedPast r (with_number t j) input before (Ok b)
judged_so r t input before v j b (p, i, located, kind, says) is = inr (p, i, located, kind, (v, says, sym is))

pub meet_past : (r : Records) (on : FlowSupport) (bound number skip : ℕ) (more left : List Flow) (b : Bound) (input before : List ℕ) (v : ℕ) → slice_get on.bounds bound ≡ Some b → BoundGives r (past_bound r b 0) input before v
    → nat_lt v number ≡ true → left ≡ drop skip more → MeetFlows r on (flow.Until bound number skip ∷ more) left input before before 0
meet_past r on bound number skip more left b input before v at gives past same zero le = absurd (omega (arith, le))
meet_past r on bound number skip more left b input before v at gives past same (suc n) le = (
  n,
  omega (arith, le, ap length same, length-drop skip more),
  λ k h. subst (λ (o : Option Bound). DeedsHaveMet r (either_way r o number (carried_from r on n (drop skip more)) (carried_from r on n more)) input before (0 + k)) (sym at)
      (inr (inl (
        judged_so r (past_bound r b 0) input before v number true gives past,
        inl (subst (λ (c : ℕ). DeedsHaveMet r (carried_from r on n (drop skip more)) input before c) (plain k) (subst (λ (fs : List Flow). DeedsHaveMet r (carried_from r on n fs) input before k) same h)),
      ))),
)

pub meet_within : (r : Records) (on : FlowSupport) (bound number skip : ℕ) (more : List Flow) (b : Bound) (input before : List ℕ) (v : ℕ) → slice_get on.bounds bound ≡ Some b → BoundGives r (past_bound r b 0) input before v
    → nat_lt v number ≡ false → MeetFlows r on (flow.Until bound number skip ∷ more) more input before before 0
meet_within r on bound number skip more b input before v at gives past zero le = absurd (omega (arith, le))
meet_within r on bound number skip more b input before v at gives past (suc n) le = (
  n,
  omega (arith, le),
  λ k h. subst (λ (o : Option Bound). DeedsHaveMet r (either_way r o number (carried_from r on n (drop skip more)) (carried_from r on n more)) input before (0 + k)) (sym at)
      (inr (inr (
        judged_so r (past_bound r b 0) input before v number false gives past,
        inl (subst (λ (c : ℕ). DeedsHaveMet r (carried_from r on n more) input before c) (plain k) h),
      ))),
)

-- a condition that holds
meet_holds : (r : Records) (on : FlowSupport) (condition holding lacking : ℕ) (more : List Flow) (c : code.Condition) (input before : List ℕ) → slice_get on.conditions condition ≡ Some c
    → Judged r (Holds (condition_of (sender_at r on) c)) input before (Ok true) → MeetFlows r on (flow.Where condition holding lacking ∷ more) more input before before 0
meet_holds r on condition holding lacking more c input before at is zero le = absurd (omega (arith, le))
meet_holds r on condition holding lacking more c input before at is (suc n) le = (
  n,
  omega (arith, le),
  λ k h. subst (λ (o : Option code.Condition). DeedsHaveMet r (either_holds r on o (carried_from r on n more) (carried_from r on n (behind_skip holding more))) input before (0 + k)) (sym at)
      (inr (inl (is, inl (subst (λ (j : ℕ). DeedsHaveMet r (carried_from r on n more) input before j) (plain k) h)))),
)

-- one that doesn't
meet_lacks : (r : Records) (on : FlowSupport) (condition holding lacking : ℕ) (more left : List Flow) (c : code.Condition) (input before : List ℕ) → slice_get on.conditions condition ≡ Some c
    → Judged r (Holds (condition_of (sender_at r on) c)) input before (Ok false) → left ≡ behind_skip holding more → MeetFlows r on (flow.Where condition holding lacking ∷ more) left input before before 0
meet_lacks r on condition holding lacking more left c input before at is same zero le = absurd (omega (arith, le))
meet_lacks r on condition holding lacking more left c input before at is same (suc n) le = (
  n,
  omega (arith, le, ap length same, behind_fewer holding more),
  λ k h. subst (λ (o : Option code.Condition). DeedsHaveMet r (either_holds r on o (carried_from r on n more) (carried_from r on n (behind_skip holding more))) input before (0 + k)) (sym at)
      (inr (inr (
        is,
        inl (subst (λ (j : ℕ). DeedsHaveMet r (carried_from r on n (behind_skip holding more)) input before j) (plain k) (subst (λ (fs : List Flow). DeedsHaveMet r (carried_from r on n fs) input before k) same h)),
      ))),
)

-- a skip
meet_skip : (r : Records) (on : FlowSupport) (count : ℕ) (more left : List Flow) (input before : List ℕ) → left ≡ drop count more → MeetFlows r on (flow.Skip count ∷ more) left input before before 0
meet_skip r on count more left input before same zero le = absurd (omega (arith, le))
meet_skip r on count more left input before same (suc n) le = (
  n,
  omega (arith, le, ap length same, length-drop count more),
  λ k h. subst (λ (j : ℕ). DeedsHaveMet r (carried_from r on n (drop count more)) input before j) (plain k) (subst (λ (fs : List Flow). DeedsHaveMet r (carried_from r on n fs) input before k) same h),
)

pub none_met_flows : (r : Records) (on : FlowSupport) (fs : List Flow) (input before : List ℕ) → MetFlows r on fs input before 0
none_met_flows r on fs input before n le = none_done r (carried_from r on n fs) input before

-- ---- what is read at a flow

pub moves_spend : (r : Records) (on : FlowSupport) (number : ℕ) (more : List Flow) (input before after : List ℕ) (old new : Scratching) → Applied r (moves_between_marks r on.moves number (number + 1)) input before (done after)
    → ReadsOfMoves {A = Unit {0}} r (moves_between_marks r on.moves number (number + 1)) input before (Ok tt) old new → FlowSpends r on (flow.Moves number ∷ more) more input before after old new
moves_spend r on number more input before after old new made (met, own, spent) = (met, meet_moves r on number more input before after met made own, spent)

pub moves_stop_reads : (r : Records) (on : FlowSupport) (number : ℕ) (more : List Flow) (input before : List ℕ) (stop : Stop) (old new : Scratching)
    → ReadsOfMoves {A = Unit {0}} r (moves_between_marks r on.moves number (number + 1)) input before (Err stop) old new → FlowSpendsAtStop r on (flow.Moves number ∷ more) input before old new
moves_stop_reads r on number more input before stop old new (met, own, spent) = (met, met_moves r on number more input before met own, spent)

pub turns_spend : TestLaws → OneEnding → (r : Records) (on : FlowSupport) (number : ℕ) (more : List Flow) (l : CountedLoop) (input before after : List ℕ) (old new : Scratching) → slice_get on.loops number ≡ Some l
    → Carried (Judged r) r (loop_done r on (Some l)) input before (done after) → ReadsOfDeeds {A = Unit {0}} r (loop_done r on (Some l)) input before (Ok tt) old new → FlowSpends r on (flow.Turns number ∷ more) more input before after old new
turns_spend law one r on number more l input before after old new at made (met, own, spent) = (met, meet_turns law one r on number more l input before after met at made own, spent)

pub turns_stop_reads : (r : Records) (on : FlowSupport) (number : ℕ) (more : List Flow) (l : CountedLoop) (input before : List ℕ) (stop : Stop) (old new : Scratching) → slice_get on.loops number ≡ Some l
    → ReadsOfDeeds {A = Unit {0}} r (loop_done r on (Some l)) input before (Err stop) old new → FlowSpendsAtStop r on (flow.Turns number ∷ more) input before old new
turns_stop_reads r on number more l input before stop old new at (met, own, spent) = (met, met_turns r on number more l input before met at own, spent)

pub past_spends : (r : Records) (on : FlowSupport) (bound number skip : ℕ) (more left : List Flow) (b : Bound) (input before : List ℕ) (v : ℕ) (old new : Scratching) → slice_get on.bounds bound ≡ Some b → BoundGives r (past_bound r b 0) input before v
    → nat_lt v number ≡ true → left ≡ drop skip more → ReadsFor {A = Unit {0}} r.output 0 (Ok tt) old new → FlowSpends r on (flow.Until bound number skip ∷ more) left input before before old new
past_spends r on bound number skip more left b input before v old new at gives past same spent = (0, meet_past r on bound number skip more left b input before v at gives past same, spent)

pub within_spends : (r : Records) (on : FlowSupport) (bound number skip : ℕ) (more : List Flow) (b : Bound) (input before : List ℕ) (v : ℕ) (old new : Scratching) → slice_get on.bounds bound ≡ Some b → BoundGives r (past_bound r b 0) input before v
    → nat_lt v number ≡ false → ReadsFor {A = Unit {0}} r.output 0 (Ok tt) old new → FlowSpends r on (flow.Until bound number skip ∷ more) more input before before old new
within_spends r on bound number skip more b input before v old new at gives past spent = (0, meet_within r on bound number skip more b input before v at gives past, spent)

pub holds_spends : (r : Records) (on : FlowSupport) (condition holding lacking : ℕ) (more : List Flow) (c : code.Condition) (input before : List ℕ) (old new : Scratching) → slice_get on.conditions condition ≡ Some c
    → Judged r (Holds (condition_of (sender_at r on) c)) input before (Ok true) → ReadsFor {A = Bool} r.output 0 (Ok true) old new → FlowSpends r on (flow.Where condition holding lacking ∷ more) more input before before old new
holds_spends r on condition holding lacking more c input before old new at is spent = (0, meet_holds r on condition holding lacking more c input before at is, spent)

pub lacks_spends : (r : Records) (on : FlowSupport) (condition holding lacking : ℕ) (more left : List Flow) (c : code.Condition) (input before : List ℕ) (old new : Scratching) → slice_get on.conditions condition ≡ Some c
    → Judged r (Holds (condition_of (sender_at r on) c)) input before (Ok false) → left ≡ behind_skip holding more → ReadsFor {A = Bool} r.output 0 (Ok false) old new
    → FlowSpends r on (flow.Where condition holding lacking ∷ more) left input before before old new
lacks_spends r on condition holding lacking more left c input before old new at is same spent = (0, meet_lacks r on condition holding lacking more left c input before at is same, spent)

pub skip_spends : (r : Records) (on : FlowSupport) (count : ℕ) (more left : List Flow) (input before : List ℕ) (s : Scratching) → left ≡ drop count more → FlowSpends r on (flow.Skip count ∷ more) left input before before s s
skip_spends r on count more left input before s same = (0, meet_skip r on count more left input before same, omega (arith, allowed_none r.output))

pub test_stop_reads : (r : Records) (on : FlowSupport) (fs : List Flow) (input before : List ℕ) (stop : Stop) (old new : Scratching) → ReadsFor {A = ℕ} r.output 0 (Err stop) old new → FlowSpendsAtStop r on fs input before old new
test_stop_reads r on fs input before stop old new spent = (0, none_met_flows r on fs input before, spent)

-- ---- flows one behind another

pub meet_on : (r : Records) (on : FlowSupport) (all left next : List Flow) (input before now after : List ℕ) (met own : ℕ) → MeetFlows r on all left input before now met → MeetFlows r on left next input now after own
    → MeetFlows r on all next input before after (met + own)
meet_on r on all left next input before now after met own so one n le =
    let (m, few, back) = so n le in
    let (k, fewer, came) = one m few in
    (k, fewer, λ rest h. subst (λ (c : ℕ). DeedsHaveMet r (carried_from r on n all) input before c) (sum met own rest) (back (own + rest) (came rest h)))
  where
    sum : (a b c : ℕ) → a + (b + c) ≡ a + b + c
    sum a b c = omega arith

pub meet_first : (r : Records) (on : FlowSupport) (all : List Flow) (input before : List ℕ) → MeetFlows r on all all input before before 0
meet_first r on all input before n le = (n, le, λ k h. subst (λ (c : ℕ). DeedsHaveMet r (carried_from r on n all) input before c) (plain k) h)

pub spends_first : (r : Records) (on : FlowSupport) (all : List Flow) (input before : List ℕ) (s : Scratching) → FlowSpends r on all all input before before s s
spends_first r on all input before s = (0, meet_first r on all input before, omega (arith, allowed_none r.output))

pub spends_on : (r : Records) (on : FlowSupport) (all left next : List Flow) (input before now after : List ℕ) (old mid new : Scratching) → FlowSpends r on all left input before now old mid
    → FlowSpends r on left next input now after mid new → FlowSpends r on all next input before after old new
spends_on r on all left next input before now after old mid new (met, so, first) (own, one, then) =
    (met + own, meet_on r on all left next input before now after met own so one, omega (arith, first, then, allowed_both r.output met own))

pub stop_reads : (r : Records) (on : FlowSupport) (all left : List Flow) (input before now : List ℕ) (stop : Stop) (old mid new : Scratching) → FlowSpends r on all left input before now old mid
    → FlowSpendsAtStop r on left input now mid new → ReadsOfDeeds {A = Unit {0}} r (carried_from r on (length all) all) input before (Err stop) old new
stop_reads r on all left input before now stop old mid new (met, so, first) (own, one, then) =
    let (m, few, back) = so (length all) (omega arith) in
    (met + own, back own (one m few), omega (arith, first, then, allowed_both r.output met own))

pub all_reads : (r : Records) (on : FlowSupport) (all left : List Flow) (input before now : List ℕ) (old new : Scratching) → left ≡ [] → FlowSpends r on all left input before now old new
    → ReadsOfDeeds {A = Unit {0}} r (carried_from r on (length all) all) input before (Ok tt) old new
all_reads r on all left input before now old new none (met, so, spent) =
    let (m, few, back) = so (length all) (omega arith) in
    let sum : met + 0 ≡ met = omega arith in (
      met,
      subst (λ (c : ℕ). DeedsHaveMet r (carried_from r on (length all) all) input before c) sum
          (back 0 (subst (λ (d : Deeds Test). DeedsHaveMet r d input now 0) (sym (ap (λ (fs : List Flow). carried_from r on m fs) none ∙ none_carried r on m)) refl)),
      spent,
    )

-- ---- what flows come to as they are carried out, and what is done

-- so many of the others met, from a storage
abbrev pub MeetOn : Records → FlowSupport → List Flow → List ℕ → List ℕ → ℕ → Type 0
MeetOn r on others input after count = (m : ℕ) × (length others ≤ m) × DeedsHaveMet r (carried_from r on m others) input after count

-- a test, with what it passes over and what stands behind that
test_met : (r : Records) (on : FlowSupport) (n k number skip : ℕ) (fs others : List Flow) (b : Bound) (input before : List ℕ) (count : ℕ) → skip ≤ length fs
    → ((c : ℕ) → DeedsHaveMet r (carried_from r on k (drop skip fs ++ others)) input before c
    → MetThen (λ j. DeedsHaveMet r (deeds_from r on n (drop skip fs)) input before j) (λ after. Carried (Judged r) r (deeds_from r on n (drop skip fs)) input before (done after)) (λ after j. MeetOn r on others input after j) c)
    → ((c : ℕ) → DeedsHaveMet r (carried_from r on k (take skip fs ++ (drop skip fs ++ others))) input before c
    → MetThen (λ j. DeedsHaveMet r (deeds_from r on n (take skip fs)) input before j) (λ after. Carried (Judged r) r (deeds_from r on n (take skip fs)) input before (done after)) (λ after j. MeetOn r on (drop skip fs ++ others) input after j) c)
    → ((m : ℕ) (mid : List ℕ) (c : ℕ) → length (drop skip fs ++ others) ≤ m → DeedsHaveMet r (carried_from r on m (drop skip fs ++ others)) input mid c
    → MetThen (λ j. DeedsHaveMet r (deeds_from r on n (drop skip fs)) input mid j) (λ after. Carried (Judged r) r (deeds_from r on n (drop skip fs)) input mid (done after)) (λ after j. MeetOn r on others input after j) c)
    → DeedsHaveMet r (either_way r (Some b) number (carried_from r on k (drop skip (fs ++ others))) (carried_from r on k (fs ++ others))) input before count
    → MetThen (λ j. DeedsHaveMet r (unless_past r (Some b) number (deeds_from r on n (take skip fs)) (deeds_from r on n (drop skip fs))) input before j)
    (λ after. Carried (Judged r) r (unless_past r (Some b) number (deeds_from r on n (take skip fs)) (deeds_from r on n (drop skip fs))) input before (done after)) (λ after j. MeetOn r on others input after j) count
test_met r on n k number skip fs others b input before count within past inside behind (inl none) = inl (inl none)
test_met r on n k number skip fs others b input before count within past inside behind (inr (inl (is, x))) =
    let d : Deeds Test = deeds_from r on n (drop skip fs) in
    let all : Deeds Test = Choice (Until (past_bound r b number)) Nothing (deeds_from r on n (take skip fs)) d in
    let here = met_nothing r (carried_from r on k (drop skip (fs ++ others))) input before count x in
    met_map (λ j. DeedsHaveMet r d input before j) (λ j. DeedsHaveMet r all input before j) (λ after. Carried (Judged r) r d input before (done after)) (λ after. Carried (Judged r) r all input before (done after))
    (λ after j. MeetOn r on others input after j) (λ after j. MeetOn r on others input after j) count
    (λ j y. inr (inl (is, inr (before, 0, j, plain j, refl, refl, y)))) (λ after y. inl (is, inl (before, refl, y))) (λ after j y. y)
    (past count (subst (λ (gs : List Flow). DeedsHaveMet r (carried_from r on k gs) input before count) (drop-append-le skip fs others within) here))
test_met r on n k number skip fs others b input before count within past inside behind (inr (inr (is, x))) =
    let front : Deeds Test = deeds_from r on n (take skip fs) in
    let d : Deeds Test = deeds_from r on n (drop skip fs) in
    let all : Deeds Test = Choice (Until (past_bound r b number)) Nothing front d in
    let first : ℕ → Type 0 = λ j. DeedsHaveMet r front input before j in
    let goes : List ℕ → Type 0 = λ s. Carried (Judged r) r front input before (done s) in
    let here = met_nothing r (carried_from r on k (fs ++ others)) input before count x in
    let cut : fs ++ others ≡ take skip fs ++ (drop skip fs ++ others) = ap (λ (gs : List Flow). gs ++ others) (sym (take-append-drop skip fs)) ∙ append_assoc (take skip fs) (drop skip fs) others in
    met_map (λ j. MetThen first goes (λ s i. DeedsHaveMet r d input s i) j) (λ j. DeedsHaveMet r all input before j)
    (λ after. (mid : List ℕ) × goes mid × Carried (Judged r) r d input mid (done after)) (λ after. Carried (Judged r) r all input before (done after))
    (λ after j. MeetOn r on others input after j) (λ after j. MeetOn r on others input after j) count
    (λ j y. inr (inr (is, y))) (λ after (mid, go, y). inr (inl (is, inl (mid, go, y)))) (λ after j y. y)
    (met_back first goes (λ s i. DeedsHaveMet r d input s i) (λ mid after. Carried (Judged r) r d input mid (done after)) (λ after j. MeetOn r on others input after j) count
    (met_map first first goes goes (λ mid j. MeetOn r on (drop skip fs ++ others) input mid j)
    (λ mid j. MetThen (λ i. DeedsHaveMet r d input mid i) (λ after. Carried (Judged r) r d input mid (done after)) (λ after i. MeetOn r on others input after i) j) count (λ j y. y) (λ s y. y)
    (λ mid j (m, few, y). behind m mid j few y)
    (inside count (subst (λ (gs : List Flow). DeedsHaveMet r (carried_from r on k gs) input before count) cut here))))

-- what met of what is done in front, and of flows that come to what is done behind it and then to the others
parts_met : (r : Records) (on : FlowSupport) (front d : Deeds Test) (rest others : List Flow) (input before : List ℕ) (count : ℕ)
    → ((m : ℕ) (mid : List ℕ) (c : ℕ) → length rest ≤ m → DeedsHaveMet r (carried_from r on m rest) input mid c
    → MetThen (λ j. DeedsHaveMet r d input mid j) (λ after. Carried (Judged r) r d input mid (done after)) (λ after j. MeetOn r on others input after j) c)
    → MetThen (λ j. DeedsHaveMet r front input before j) (λ after. Carried (Judged r) r front input before (done after)) (λ after j. MeetOn r on rest input after j) count
    → MetThen (λ j. MetThen (λ i. DeedsHaveMet r front input before i) (λ s. Carried (Judged r) r front input before (done s)) (λ s i. DeedsHaveMet r d input s i) j)
    (λ after. (mid : List ℕ) × Carried (Judged r) r front input before (done mid) × Carried (Judged r) r d input mid (done after)) (λ after j. MeetOn r on others input after j) count
parts_met r on front d rest others input before count behind x =
    let first : ℕ → Type 0 = λ j. DeedsHaveMet r front input before j in
    let goes : List ℕ → Type 0 = λ s. Carried (Judged r) r front input before (done s) in
    met_back first goes (λ s i. DeedsHaveMet r d input s i) (λ mid after. Carried (Judged r) r d input mid (done after)) (λ after j. MeetOn r on others input after j) count
    (met_map first first goes goes (λ mid j. MeetOn r on rest input mid j)
    (λ mid j. MetThen (λ i. DeedsHaveMet r d input mid i) (λ after. Carried (Judged r) r d input mid (done after)) (λ after i. MeetOn r on others input after i) j) count (λ j y. y) (λ s y. y)
    (λ mid j (m, few, y). behind m mid j few y) x)

-- a condition, with both branches and what stands behind them
where_met : (r : Records) (on : FlowSupport) (c : code.Condition) (holding lacking d here there : Deeds Test) (held lacked others : List Flow) (input before : List ℕ) (count : ℕ)
    → (DeedsHaveMet r here input before count
    → MetThen (λ j. DeedsHaveMet r holding input before j) (λ after. Carried (Judged r) r holding input before (done after)) (λ after j. MeetOn r on held input after j) count)
    → (DeedsHaveMet r there input before count
    → MetThen (λ j. DeedsHaveMet r lacking input before j) (λ after. Carried (Judged r) r lacking input before (done after)) (λ after j. MeetOn r on lacked input after j) count)
    → ((m : ℕ) (mid : List ℕ) (j : ℕ) → length held ≤ m → DeedsHaveMet r (carried_from r on m held) input mid j
    → MetThen (λ i. DeedsHaveMet r d input mid i) (λ after. Carried (Judged r) r d input mid (done after)) (λ after i. MeetOn r on others input after i) j)
    → ((m : ℕ) (mid : List ℕ) (j : ℕ) → length lacked ≤ m → DeedsHaveMet r (carried_from r on m lacked) input mid j
    → MetThen (λ i. DeedsHaveMet r d input mid i) (λ after. Carried (Judged r) r d input mid (done after)) (λ after i. MeetOn r on others input after i) j)
    → DeedsHaveMet r (either_holds r on (Some c) here there) input before count
    → MetThen (λ j. DeedsHaveMet r (where_holds r on (Some c) holding lacking d) input before j) (λ after. Carried (Judged r) r (where_holds r on (Some c) holding lacking d) input before (done after))
    (λ after j. MeetOn r on others input after j) count
where_met r on c holding lacking d here there held lacked others input before count first second one other (inl none) = inl (inl none)
where_met r on c holding lacking d here there held lacked others input before count first second one other (inr (inl (is, x))) =
    let all : Deeds Test = where_holds r on (Some c) holding lacking d in
    met_map (λ j. MetThen (λ i. DeedsHaveMet r holding input before i) (λ s. Carried (Judged r) r holding input before (done s)) (λ s i. DeedsHaveMet r d input s i) j) (λ j. DeedsHaveMet r all input before j)
    (λ after. (mid : List ℕ) × Carried (Judged r) r holding input before (done mid) × Carried (Judged r) r d input mid (done after)) (λ after. Carried (Judged r) r all input before (done after))
    (λ after j. MeetOn r on others input after j) (λ after j. MeetOn r on others input after j) count
    (λ j y. inr (inl (is, y))) (λ after (mid, go, y). inl (is, inl (mid, go, y))) (λ after j y. y)
    (parts_met r on holding d held others input before count one (first (met_nothing r here input before count x)))
where_met r on c holding lacking d here there held lacked others input before count first second one other (inr (inr (is, x))) =
    let all : Deeds Test = where_holds r on (Some c) holding lacking d in
    met_map (λ j. MetThen (λ i. DeedsHaveMet r lacking input before i) (λ s. Carried (Judged r) r lacking input before (done s)) (λ s i. DeedsHaveMet r d input s i) j) (λ j. DeedsHaveMet r all input before j)
    (λ after. (mid : List ℕ) × Carried (Judged r) r lacking input before (done mid) × Carried (Judged r) r d input mid (done after)) (λ after. Carried (Judged r) r all input before (done after))
    (λ after j. MeetOn r on others input after j) (λ after j. MeetOn r on others input after j) count
    (λ j y. inr (inr (is, y))) (λ after (mid, go, y). inr (inl (is, inl (mid, go, y)))) (λ after j y. y)
    (parts_met r on lacking d lacked others input before count other (second (met_nothing r there input before count x)))

-- flows that begin with a skip go on behind it
skip_met : (r : Records) (on : FlowSupport) (skipped m : ℕ) (more : List Flow) (input mid : List ℕ) (count : ℕ) → length (flow.Skip skipped ∷ more) ≤ m → DeedsHaveMet r (carried_from r on m (flow.Skip skipped ∷ more)) input mid count
    → (k : ℕ) × (length more ≤ k) × DeedsHaveMet r (carried_from r on k (drop skipped more)) input mid count
skip_met r on skipped zero more input mid count few x = absurd (omega (arith, few))
skip_met r on skipped (suc k) more input mid count few x = (k, omega (arith, few), x)

flows_met : TestLaws → OneEnding → (r : Records) (on : FlowSupport) (n k : ℕ) (fs others : List Flow) (input before : List ℕ) (count : ℕ) → AllByRecursion (IsFlow on) fs → AreNestedFlows n fs → length fs ≤ n → length (fs ++ others) ≤ k
    → DeedsHaveMet r (carried_from r on k (fs ++ others)) input before count
    → MetThen (λ j. DeedsHaveMet r (deeds_from r on n fs) input before j) (λ after. Carried (Judged r) r (deeds_from r on n fs) input before (done after)) (λ after j. MeetOn r on others input after j) count
flows_met law one r on zero k [] others input before count each nested few le x = inr (before, 0, count, plain count, refl, refl, (k, le, x))
flows_met law one r on zero k (f ∷ fs) others input before count each nested few le x = absurd (omega (arith, few))
flows_met law one r on (suc n) k [] others input before count each nested few le x = inr (before, 0, count, plain count, refl, refl, (k, le, x))
flows_met law one r on (suc n) zero (f ∷ fs) others input before count each nested few le x = absurd (omega (arith, le))
flows_met law one r on (suc n) (suc k) (flow.Moves number ∷ fs) others input before count each nested few le x =
    let ms : List Move = moves_between_marks r on.moves number (number + 1) in
    let d : Deeds Test = deeds_from r on n fs in
    let first : ℕ → Type 0 = λ j. HaveMet r ms input before j in
    let goes : List ℕ → Type 0 = λ s. Applied r ms input before (done s) in
    met_map (λ j. MetThen first goes (λ s i. DeedsHaveMet r d input s i) j) (λ j. DeedsHaveMet r (Moving ms d) input before j)
    (λ after. (mid : List ℕ) × goes mid × Carried (Judged r) r d input mid (done after)) (λ after. Carried (Judged r) r (Moving ms d) input before (done after))
    (λ after j. MeetOn r on others input after j) (λ after j. MeetOn r on others input after j) count (λ j y. y) (λ after (mid, go, y). inl (mid, go, y)) (λ after j y. y)
    (met_back first goes (λ s i. DeedsHaveMet r d input s i) (λ mid after. Carried (Judged r) r d input mid (done after)) (λ after j. MeetOn r on others input after j) count
    (met_map first first goes goes (λ mid j. DeedsHaveMet r (carried_from r on k (fs ++ others)) input mid j)
    (λ mid j. MetThen (λ i. DeedsHaveMet r d input mid i) (λ after. Carried (Judged r) r d input mid (done after)) (λ after i. MeetOn r on others input after i) j) count (λ j y. y) (λ s y. y)
    (λ mid j y. flows_met law one r on n k fs others input mid j each.1 nested (omega (arith, few)) (omega (arith, le)) y) x))
flows_met law one r on (suc n) (suc k) (flow.Turns number ∷ fs) others input before count each nested few le x =
    let loop : Deeds Test = loop_done r on (slice_get on.loops number) in
    let d : Deeds Test = deeds_from r on n fs in
    let first : ℕ → Type 0 = λ j. DeedsHaveMet r loop input before j in
    let goes : List ℕ → Type 0 = λ s. Carried (Judged r) r loop input before (done s) in
    met_map (λ j. MetThen first goes (λ s i. DeedsHaveMet r d input s i) j) (λ j. DeedsHaveMet r (both_deeds loop d) input before j)
    (λ after. (mid : List ℕ) × goes mid × Carried (Judged r) r d input mid (done after)) (λ after. Carried (Judged r) r (both_deeds loop d) input before (done after))
    (λ after j. MeetOn r on others input after j) (λ after j. MeetOn r on others input after j) count (λ j y. met_together law one r loop d input before j y)
    (λ after (mid, go, y). both_together (Judged r) r loop d input before (done after) (inl (mid, go, y))) (λ after j y. y)
    (met_back first goes (λ s i. DeedsHaveMet r d input s i) (λ mid after. Carried (Judged r) r d input mid (done after)) (λ after j. MeetOn r on others input after j) count
    (met_map first first goes goes (λ mid j. DeedsHaveMet r (carried_from r on k (fs ++ others)) input mid j)
    (λ mid j. MetThen (λ i. DeedsHaveMet r d input mid i) (λ after. Carried (Judged r) r d input mid (done after)) (λ after i. MeetOn r on others input after i) j) count (λ j y. y) (λ s y. y)
    (λ mid j y. flows_met law one r on n k fs others input mid j each.1 nested (omega (arith, few)) (omega (arith, le)) y)
    (met_apart r loop (carried_from r on k (fs ++ others)) input before count x)))
flows_met law one r on (suc n) (suc k) (flow.Until bound number skip ∷ fs) others input before count each nested few le x =
    let (b, at) = each.0 in
    let (within, inside, behind) = nested in
    subst (λ (o : Option Bound). MetThen (λ j. DeedsHaveMet r (unless_past r o number (deeds_from r on n (take skip fs)) (deeds_from r on n (drop skip fs))) input before j)
    (λ after. Carried (Judged r) r (unless_past r o number (deeds_from r on n (take skip fs)) (deeds_from r on n (drop skip fs))) input before (done after)) (λ after j. MeetOn r on others input after j) count) (sym at)
    (test_met r on n k number skip fs others b input before count within
    (λ c y. flows_met law one r on n k (drop skip fs) others input before c (all_behind (IsFlow on) skip fs each.1) behind (omega (arith, few, length-drop skip fs)) (omega (arith, le, length-append fs others, length-append (drop skip fs) others, length-drop skip fs)) y)
    (λ c y. flows_met law one r on n k (take skip fs) (drop skip fs ++ others) input before c (all_front (IsFlow on) skip fs each.1) inside (omega (arith, few, length-take-le skip fs within, within))
    (omega (arith, le, length-append fs others, length-append (take skip fs) (drop skip fs ++ others), length-append (drop skip fs) others, length-drop skip fs, length-take-le skip fs within, within)) y)
    (λ m mid c few_left y. flows_met law one r on n m (drop skip fs) others input mid c (all_behind (IsFlow on) skip fs each.1) behind (omega (arith, few, length-drop skip fs)) few_left y)
    (subst (λ (o : Option Bound). DeedsHaveMet r (either_way r o number (carried_from r on k (drop skip (fs ++ others))) (carried_from r on k (fs ++ others))) input before count) at x))
flows_met law one r on (suc n) (suc k) (flow.Where condition holding lacking ∷ fs) others input before count each (skip, within, inside, skipped, behind) few le x =
    let (c, at) = each.0 in
    let long = skip_within holding lacking fs skip in
    let left : List Flow = behind_skip holding fs in
    let all = all_behind_skip (IsFlow on) holding fs (all_behind (IsFlow on) holding fs each.1) in
    let held : List Flow = flow.Skip lacking ∷ (left ++ others) in
    let lacked : List Flow = drop lacking left ++ others in
    let cut : left ++ others ≡ take lacking left ++ lacked = ap (λ (gs : List Flow). gs ++ others) (sym (take-append-drop lacking left)) ∙ append_assoc (take lacking left) (drop lacking left) others in
    let go_on : (m : ℕ) (mid : List ℕ) (j : ℕ) → length lacked ≤ m → DeedsHaveMet r (carried_from r on m lacked) input mid j
    → MetThen (λ i. DeedsHaveMet r (deeds_from r on n (drop lacking left)) input mid i) (λ after. Carried (Judged r) r (deeds_from r on n (drop lacking left)) input mid (done after)) (λ after i. MeetOn r on others input after i) j =
    λ m mid j few_left y. flows_met law one r on n m (drop lacking left) others input mid j (all_behind (IsFlow on) lacking left all) behind (omega (arith, few, long, length-drop lacking left)) few_left y in
    subst (λ (o : Option code.Condition). MetThen (λ j. DeedsHaveMet r (where_holds r on o (deeds_from r on n (take holding fs)) (deeds_from r on n (take lacking left)) (deeds_from r on n (drop lacking left))) input before j)
    (λ after. Carried (Judged r) r (where_holds r on o (deeds_from r on n (take holding fs)) (deeds_from r on n (take lacking left)) (deeds_from r on n (drop lacking left))) input before (done after)) (λ after j. MeetOn r on others input after j) count) (sym at)
    (where_met r on c (deeds_from r on n (take holding fs)) (deeds_from r on n (take lacking left)) (deeds_from r on n (drop lacking left))
    (carried_from r on k (fs ++ others)) (carried_from r on k (behind_skip holding (fs ++ others))) held lacked others input before count
    (λ y. flows_met law one r on n k (take holding fs) held input before count (all_front (IsFlow on) holding fs each.1) inside (omega (arith, few, long, length-take-le holding fs (within_all holding fs left long)))
    (omega (arith, le, ap length (skip_parts holding lacking fs others skip)))
    (subst (λ (gs : List Flow). DeedsHaveMet r (carried_from r on k gs) input before count) (skip_parts holding lacking fs others skip) y))
    (λ y. flows_met law one r on n k (take lacking left) lacked input before count (all_front (IsFlow on) lacking left all) skipped (omega (arith, few, long, length-take-le lacking left within, within))
    (omega (arith, le, long, length-append fs others, length-append left others, ap length cut))
    (subst (λ (gs : List Flow). DeedsHaveMet r (carried_from r on k gs) input before count) (skip_behind holding lacking fs others skip ∙ cut) y))
    (λ m mid j few_left y.
    let (p, further, z) = skip_met r on lacking m (left ++ others) input mid j few_left y in
    go_on p mid j (omega (arith, further, length-append left others, length-append (drop lacking left) others, length-drop lacking left))
    (subst (λ (gs : List Flow). DeedsHaveMet r (carried_from r on p gs) input mid j) (drop-append-le lacking left others within) z))
    go_on
    (subst (λ (o : Option code.Condition). DeedsHaveMet r (either_holds r on o (carried_from r on k (fs ++ others)) (carried_from r on k (behind_skip holding (fs ++ others)))) input before count) at x))
  where
    within_all : (h : ℕ) (gs left : List Flow) → h + 1 + length left ≡ length gs → h ≤ length gs
    within_all h gs left e = omega (arith, e)
flows_met law one r on (suc n) (suc k) (flow.Skip skipped ∷ fs) others input before count each nested few le x = absurd nested

-- what met of flows that are nested met of what is done
flows_have_met : TestLaws → OneEnding → (r : Records) (on : FlowSupport) (fs : List Flow) (input before : List ℕ) (count : ℕ) → AllByRecursion (IsFlow on) fs → AreNestedFlows (length fs) fs
    → DeedsHaveMet r (carried_from r on (length fs) fs) input before count → DeedsHaveMet r (deeds_from r on (length fs) fs) input before count
flows_have_met law one r on fs input before count each nested x =
    let whole : fs ++ [] ≡ fs = append-nil fs in
    let long : length (fs ++ []) ≤ length fs = omega (arith, ap length whole) in
    met_nothing r (deeds_from r on (length fs) fs) input before count
    (met_map (λ j. DeedsHaveMet r (deeds_from r on (length fs) fs) input before j) (λ j. DeedsHaveMet r (deeds_from r on (length fs) fs) input before j)
    (λ after. Carried (Judged r) r (deeds_from r on (length fs) fs) input before (done after)) (λ after. Carried (Judged r) r (deeds_from r on (length fs) fs) input before (done after))
    (λ after j. MeetOn r on [] input after j) (λ after j. DeedsHaveMet r Nothing input after j) count (λ j y. y) (λ s y. y)
    (λ after j (m, few, y). subst (λ (d : Deeds Test). DeedsHaveMet r d input after j) (none_carried r on m) y)
    (flows_met law one r on (length fs) (length fs) fs [] input before count each nested (omega arith) long
    (subst (λ (gs : List Flow). DeedsHaveMet r (carried_from r on (length fs) gs) input before count) (sym whole) x)))

-- ---- a bound

bounded : (t : ℕ) (met : ℕ) → t + met * t ≡ t * (1 + met)
bounded t met = omega (arith, mul_comm t met, mul-add t 1 met)

-- where nothing was read before, and nothing was kept, the reads are within their bound
pub deeds_reads : {A : Type 0} (r : Records) (on : FlowSupport) (fs : List Flow) (input before : List ℕ) (result : Result A Stop) (old new : Scratching) → TestLaws → OneEnding → AllByRecursion (IsFlow on) fs → AreNestedFlows (length fs) fs
    → old.reads ≡ 0 → kept_among r.output old.kept_output ≡ 0 → ReadsOfDeeds r (carried_from r on (length fs) fs) input before result old new
    → (met : ℕ) × DeedsHaveMet r (deeds_from r on (length fs) fs) input before met × (new.reads ≤ length (tables_of r.output) * (1 + met))
deeds_reads r on fs input before (Ok a) old new law one each nested none unkept (met, have, spent) =
    (met, flows_have_met law one r on fs input before met each nested have, omega (arith, none, unkept, spent, most_kept_among r.output new.kept_output, bounded (length (tables_of r.output)) met))
deeds_reads r on fs input before (Err stop) old new law one each nested none unkept (met, have, spent) =
    (met, flows_have_met law one r on fs input before met each nested have, omega (arith, none, unkept, spent, bounded (length (tables_of r.output)) met))
