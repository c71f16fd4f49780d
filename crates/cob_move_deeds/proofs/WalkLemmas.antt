-- Flows carried out up to some that are left.
use Rattle.std.proofs.Common.{◌≡◌, ℕ, ◌+◌, ◌≤◌, Bool, true, false, List, [], ◌∷◌, length, refl, sym, ap, subst, ◌∙◌, arith, drop, Ok, Err, Result, Some}
use Rattle.std.specs.List.{AllByRecursion, slice_get}
use Rattle.cob_move_data.specs.Moves.{Records}
use Rattle.cob_move_apply.specs.Applied.{Applied, Ending, done, stopped}
use Rattle.cob_move_apply.specs.Marked.{moves_between_marks}
use Rattle.cob_move_apply.specs.Reads.{ReadsFor, ReadsOfMoves}
use Rattle.cob_move_apply.specs.Room.{Scratching}
use Rattle.cob_move_apply.specs.declared.stop.Stop.{Stop}
use Rattle.cob_move_apply.proofs.SpentLemmas.{allowed_both}
use Rattle.cob_move_condition.specs.declared.condition.Condition as code
use Rattle.cob_move_condition.specs.Conditions.{condition_of}
use Rattle.cob_move_deeds.specs.declared.flow.Flow.{Flow}
use Rattle.cob_move_deeds.specs.declared.flow.Flow.TheVariants as flow
use Rattle.cob_move_deeds.specs.Carrying.{AreCarriedTo, FlowSpends, FlowSpendsAtStop, HasKept, LeavesFlows, StopWithin, carried_from}
use Rattle.cob_move_deeds.specs.Deeds.{Carried, Deeds}
use Rattle.cob_move_deeds.specs.Flows.{FlowSupport, IsFlow, behind_skip, branch_left, sender_at}
use Rattle.cob_move_deeds.specs.Met.{DeedsHaveMet, ReadsOfDeeds}
use Rattle.cob_move_deeds.specs.Tests.{Holds, Judged, Test}
use Rattle.cob_move_deeds.proofs.SkipLemmas.{all_behind_skip}
use Rattle.cob_move_deeds.proofs.FlowLemmas.{all_behind, condition_stops, holds_leaves, lacks_leaves, leaves_first, leaves_on, moves_leave, moves_stop, none_carried, skip_leaves, stops_on}
use Rattle.cob_move_deeds.proofs.ReadLemmas.{holds_spends, lacks_spends, moves_spend, moves_stop_reads, skip_spends, spends_first, spends_on, test_stop_reads}
use Rattle.cob_move_deeds.proofs.RowLemmas.{stop_on}

-- ---- one flow more

pub walk_first : (r : Records) (on : FlowSupport) (all : List Flow) (input before : List ℕ) (s : Scratching) → AllByRecursion (IsFlow on) all → HasKept r input before s → AreCarriedTo r on all all input before before s s
walk_first r on all input before s each kept = record {
  leaves = leaves_first r on all input before;
  each = each;
  spends = spends_first r on all input before s;
  kept = kept;
}

walk_on : (r : Records) (on : FlowSupport) (all left next : List Flow) (input before now after : List ℕ) (old mid new : Scratching) → AreCarriedTo r on all left input before now old mid → LeavesFlows r on left next input now after
    → AllByRecursion (IsFlow on) next → FlowSpends r on left next input now after mid new → HasKept r input after new → AreCarriedTo r on all next input before after old new
walk_on r on all left next input before now after old mid new so leaves each spends kept = record {
  leaves = leaves_on r on all left next input before now after so.leaves leaves;
  each = each;
  spends = spends_on r on all left next input before now after old mid new so.spends spends;
  kept = kept;
}

-- the flows that are left begin with this one
begins : (r : Records) (on : FlowSupport) (all left more : List Flow) (f g : Flow) (input before now : List ℕ) (old mid : Scratching) → AreCarriedTo r on all left input before now old mid → left ≡ f ∷ more → f ≡ g
    → AreCarriedTo r on all (g ∷ more) input before now old mid
begins r on all left more f g input before now old mid so at is = subst (λ (fs : List Flow). AreCarriedTo r on all fs input before now old mid) (at ∙ ap (λ (h : Flow). h ∷ more) is) so

pub walk_moves : (r : Records) (on : FlowSupport) (all left more : List Flow) (f : Flow) (number : ℕ) (input before now after : List ℕ) (old mid new : Scratching) → AreCarriedTo r on all left input before now old mid → left ≡ f ∷ more
    → f ≡ flow.Moves number → Applied r (moves_between_marks r on.moves number (number + 1)) input now (done after) → ReadsOfMoves {A = Unit {0}} r (moves_between_marks r on.moves number (number + 1)) input now (Ok tt) mid new
    → HasKept r input after new → AreCarriedTo r on all more input before after old new
walk_moves r on all left more f number input before now after old mid new so at is made reads kept =
    let here = begins r on all left more f (flow.Moves number) input before now old mid so at is in
    walk_on r on all (flow.Moves number ∷ more) more input before now after old mid new here (moves_leave r on number more input now after made) here.each.1
    (moves_spend r on number more input now after mid new made reads) kept

branch_leaves : (r : Records) (on : FlowSupport) (condition holding lacking : ℕ) (more : List Flow) (c : code.Condition) (holds : Bool) (input now : List ℕ) → slice_get on.conditions condition ≡ Some c
    → Judged r (Holds (condition_of (sender_at r on) c)) input now (Ok holds) → LeavesFlows r on (flow.Where condition holding lacking ∷ more) (branch_left holds holding more) input now now
branch_leaves r on condition holding lacking more c true input now at says = holds_leaves r on condition holding lacking more c input now at says
branch_leaves r on condition holding lacking more c false input now at says = lacks_leaves r on condition holding lacking more (behind_skip holding more) c input now at says refl

branch_spends : (r : Records) (on : FlowSupport) (condition holding lacking : ℕ) (more : List Flow) (c : code.Condition) (holds : Bool) (input now : List ℕ) (mid new : Scratching) → slice_get on.conditions condition ≡ Some c
    → Judged r (Holds (condition_of (sender_at r on) c)) input now (Ok holds) → ReadsFor {A = Bool} r.output 0 (Ok holds) mid new
    → FlowSpends r on (flow.Where condition holding lacking ∷ more) (branch_left holds holding more) input now now mid new
branch_spends r on condition holding lacking more c true input now mid new at says reads = holds_spends r on condition holding lacking more c input now mid new at says reads
branch_spends r on condition holding lacking more c false input now mid new at says reads = lacks_spends r on condition holding lacking more (behind_skip holding more) c input now mid new at says refl reads

branch_each : (on : FlowSupport) (holds : Bool) (holding : ℕ) (more : List Flow) → AllByRecursion (IsFlow on) more → AllByRecursion (IsFlow on) (branch_left holds holding more)
branch_each on true holding more each = each
branch_each on false holding more each = all_behind_skip (IsFlow on) holding more (all_behind (IsFlow on) holding more each)

pub walk_branch : (r : Records) (on : FlowSupport) (all left more next : List Flow) (f : Flow) (condition holding lacking : ℕ) (holds : Bool) (input before now : List ℕ) (old mid new : Scratching) → AreCarriedTo r on all left input before now old mid
    → left ≡ f ∷ more → f ≡ flow.Where condition holding lacking
    → ((c : code.Condition) → slice_get on.conditions condition ≡ Some c → Judged r (Holds (condition_of (sender_at r on) c)) input now (Ok holds)) → ReadsFor {A = Bool} r.output 0 (Ok holds) mid new → HasKept r input now new
    → next ≡ branch_left holds holding more → AreCarriedTo r on all next input before now old new
walk_branch r on all left more next f condition holding lacking holds input before now old mid new so at is says reads kept same =
    let here = begins r on all left more f (flow.Where condition holding lacking) input before now old mid so at is in
    let (c, there) = here.each.0 in
    subst (λ (fs : List Flow). AreCarriedTo r on all fs input before now old new) (sym same)
    (walk_on r on all (flow.Where condition holding lacking ∷ more) (branch_left holds holding more) input before now now old mid new here (branch_leaves r on condition holding lacking more c holds input now there (says c there))
    (branch_each on holds holding more here.each.1) (branch_spends r on condition holding lacking more c holds input now mid new there (says c there) reads) kept)

pub walk_skip : (r : Records) (on : FlowSupport) (all left more next : List Flow) (f : Flow) (count : ℕ) (input before now : List ℕ) (old mid : Scratching) → AreCarriedTo r on all left input before now old mid → left ≡ f ∷ more
    → f ≡ flow.Skip count → next ≡ drop count more → AreCarriedTo r on all next input before now old mid
walk_skip r on all left more next f count input before now old mid so at is same =
    let here = begins r on all left more f (flow.Skip count) input before now old mid so at is in
    subst (λ (fs : List Flow). AreCarriedTo r on all fs input before now old mid) (sym same)
    (walk_on r on all (flow.Skip count ∷ more) (drop count more) input before now now old mid mid here (skip_leaves r on count more (drop count more) input now refl) (all_behind (IsFlow on) count more here.each.1)
    (skip_spends r on count more (drop count more) input now mid refl) here.kept)

-- ---- stops

pub walk_stops : (r : Records) (on : FlowSupport) (all left more : List Flow) (f : Flow) (number : ℕ) (input before now : List ℕ) (stop : Stop) (after : List ℕ) (old mid new : Scratching) → AreCarriedTo r on all left input before now old mid
    → left ≡ f ∷ more → f ≡ flow.Moves number → Applied r (moves_between_marks r on.moves number (number + 1)) input now (stopped stop after)
    → ReadsOfMoves {A = Unit {0}} r (moves_between_marks r on.moves number (number + 1)) input now (Err stop) mid new → HasKept r input after new → StopWithin r on all input before stop after old new
walk_stops r on all left more f number input before now stop after old mid new so at is made reads kept =
    let here = begins r on all left more f (flow.Moves number) input before now old mid so at is in record {
      stops = stops_on r on all (flow.Moves number ∷ more) input before now after stop here.leaves (moves_stop r on number more input now after stop made);
      spent = stop_on r on all (flow.Moves number ∷ more) input before now old mid new here.spends (moves_stop_reads r on number more input now stop mid new reads);
      kept = kept;
    }

pub walk_lacks : (r : Records) (on : FlowSupport) (all left more : List Flow) (f : Flow) (condition holding lacking : ℕ) (input before now : List ℕ) (stop : Stop) (old mid new : Scratching) → AreCarriedTo r on all left input before now old mid
    → left ≡ f ∷ more → f ≡ flow.Where condition holding lacking
    → ((c : code.Condition) → slice_get on.conditions condition ≡ Some c → Judged r (Holds (condition_of (sender_at r on) c)) input now (Err stop)) → ReadsFor {A = Bool} r.output 0 (Err stop) mid new → HasKept r input now new
    → StopWithin r on all input before stop now old new
walk_lacks r on all left more f condition holding lacking input before now stop old mid new so at is says reads kept =
    let here = begins r on all left more f (flow.Where condition holding lacking) input before now old mid so at is in
    let (c, there) = here.each.0 in record {
      stops = stops_on r on all (flow.Where condition holding lacking ∷ more) input before now now stop here.leaves (condition_stops r on condition holding lacking more c input now stop there (says c there));
      spent = stop_on r on all (flow.Where condition holding lacking ∷ more) input before now old mid new here.spends (test_stop_reads r on (flow.Where condition holding lacking ∷ more) input now stop mid new reads);
      kept = kept;
    }

-- ---- ends, of which so many flows at most are looked at

-- none is left
pub ends_there : (r : Records) (on : FlowSupport) (n : ℕ) (all left : List Flow) (input before now : List ℕ) → length all ≤ n → left ≡ [] → LeavesFlows r on all left input before now
    → Carried (Judged r) r (carried_from r on n all) input before (done now)
ends_there r on n all left input before now le none so =
    let (m, few, back) = so n le in
    back (done now) (subst (λ (d : Deeds Test). Carried (Judged r) r d input now (done now)) (sym (ap (λ (fs : List Flow). carried_from r on m fs) none ∙ none_carried r on m)) refl)

pub reads_there : (r : Records) (on : FlowSupport) (n : ℕ) (all left : List Flow) (input before now : List ℕ) (old new : Scratching) → length all ≤ n → left ≡ [] → FlowSpends r on all left input before now old new
    → ReadsOfDeeds {A = Unit {0}} r (carried_from r on n all) input before (Ok tt) old new
reads_there r on n all left input before now old new le none (met, so, spent) =
    let (m, few, back) = so n le in
    let sum : met + 0 ≡ met = omega arith in (
      met,
      subst (λ (c : ℕ). DeedsHaveMet r (carried_from r on n all) input before c) sum
          (back 0 (subst (λ (d : Deeds Test). DeedsHaveMet r d input now 0) (sym (ap (λ (fs : List Flow). carried_from r on m fs) none ∙ none_carried r on m)) refl)),
      spent,
    )

-- something is missing
pub reads_at_stop : (r : Records) (on : FlowSupport) (n : ℕ) (all : List Flow) (input before : List ℕ) (stop : Stop) (old new : Scratching) → length all ≤ n → FlowSpendsAtStop r on all input before old new
    → ReadsOfDeeds {A = Unit {0}} r (carried_from r on n all) input before (Err stop) old new
reads_at_stop r on n all input before stop old new le (met, own, spent) = (met, own n le, spent)

-- others go on with those that are left
reads_both : {A : Type 0} (r : Records) (result : Result A Stop) (old mid new : Scratching) (met own : ℕ) → ReadsFor {A = Unit {0}} r.output met (Ok tt) old mid → ReadsFor r.output own result mid new → ReadsFor r.output (met + own) result old new
reads_both r (Ok a) old mid new met own first then = omega (arith, first, then, allowed_both r.output met own)
reads_both r (Err stop) old mid new met own first then = omega (arith, first, then, allowed_both r.output met own)

pub goes_on : (r : Records) (on : FlowSupport) (all left : List Flow) (input before now : List ℕ) (end : Ending) → LeavesFlows r on all left input before now
    → ((n : ℕ) → length left ≤ n → Carried (Judged r) r (carried_from r on n left) input now end) → Carried (Judged r) r (carried_from r on (length all) all) input before end
goes_on r on all left input before now end so rest =
    let (m, few, back) = so (length all) (omega arith) in
    back end (rest m few)

pub reads_on : {A : Type 0} (r : Records) (on : FlowSupport) (all left : List Flow) (input before now : List ℕ) (result : Result A Stop) (old mid new : Scratching) → FlowSpends r on all left input before now old mid
    → ((n : ℕ) → length left ≤ n → ReadsOfDeeds r (carried_from r on n left) input now result mid new) → ReadsOfDeeds r (carried_from r on (length all) all) input before result old new
reads_on r on all left input before now result old mid new (met, so, first) rest =
    let (m, few, back) = so (length all) (omega arith) in
    let (own, one, then) = rest m few in
    (met + own, back own one, reads_both r result old mid new met own first then)
