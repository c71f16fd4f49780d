-- Whether there is a test.
use Rattle.std.proofs.Common.{◌≡◌, ℕ, zero, suc, ◌≤◌, List, [], ◌∷◌, Option, Some, arith, drop, length, subst, take}
use Rattle.std.specs.List.{AllByRecursion, slice_get}
use Rattle.cob_move_data.specs.Moves.{Records}
use Rattle.cob_move_condition.specs.declared.condition.Condition as code
use Rattle.cob_move_deeds.specs.declared.flow.Bound.{Bound}
use Rattle.cob_move_deeds.specs.declared.flow.CountedLoop.{CountedLoop}
use Rattle.cob_move_deeds.specs.declared.flow.Flow.{Flow}
use Rattle.cob_move_deeds.specs.declared.flow.Flow.TheVariants as flow
use Rattle.cob_move_deeds.specs.Deeds.{Deeds, IsStraight, Moving, Nothing, both_deeds}
use Rattle.cob_move_deeds.specs.Flows.{AreNestedFlows, FlowSupport, IsFlow, behind_skip, deeds_from, loop_done, moves_of_turn, turns_to, unless_past, where_holds}
use Rattle.cob_move_deeds.specs.Tests.{Test, Until, past_bound}
use Rattle.cob_move_deeds.specs.Turns.{turns_from}
use Rattle.cob_move_deeds.specs.Told.{MovesAlone}

-- a loop written out begins with a test
turns_tested : (until : ℕ → Test) (body : ℕ → Deeds Test) (by n i : ℕ) (d : Deeds Test) → IsStraight (both_deeds (turns_from until body by n i) d) → ⊥
turns_tested until body by zero i d s = s
turns_tested until body by (suc n) i d s = s

loop_tested : (r : Records) (on : FlowSupport) (l : CountedLoop) (b : Bound) (d : Deeds Test) → slice_get on.bounds l.bound ≡ Some b → IsStraight (both_deeds (loop_done r on (Some l)) d) → ⊥
loop_tested r on l b d at s =
    turns_tested (λ number. Until (past_bound r b number)) (λ number. Moving (moves_of_turn r on.moves l number) Nothing) l.by l.turns l.from d (subst (λ (o : Option Bound). IsStraight (both_deeds (turns_to r on.moves l o) d)) at s)

-- flows that move alone come to no test
pub move_straight : (r : Records) (on : FlowSupport) (n : ℕ) (fs : List Flow) → AllByRecursion MovesAlone fs → IsStraight (deeds_from r on n fs)
move_straight r on zero fs all = tt
move_straight r on (suc n) [] all = tt
move_straight r on (suc n) (flow.Moves k ∷ fs) all = move_straight r on n fs all.1
move_straight r on (suc n) (flow.Turns k ∷ fs) all = absurd all.0
move_straight r on (suc n) (flow.Until b k s ∷ fs) all = absurd all.0
move_straight r on (suc n) (flow.Where k h l ∷ fs) all = absurd all.0
move_straight r on (suc n) (flow.Skip k ∷ fs) all = absurd all.0

-- and flows that come to none move alone
pub straight_move : (r : Records) (on : FlowSupport) (n : ℕ) (fs : List Flow) → length fs ≤ n → AllByRecursion (IsFlow on) fs → AreNestedFlows n fs → IsStraight (deeds_from r on n fs) → AllByRecursion MovesAlone fs
straight_move r on zero [] long each nested s = tt
straight_move r on zero (f ∷ fs) long each nested s = absurd (omega (arith, long))
straight_move r on (suc n) [] long each nested s = tt
straight_move r on (suc n) (flow.Moves k ∷ fs) long each nested s = (tt, straight_move r on n fs (omega (arith, long)) each.1 nested s)
straight_move r on (suc n) (flow.Turns k ∷ fs) long each nested s =
    let (l, at, is) = each.0 in
    absurd (loop_tested r on l is.bound (deeds_from r on n fs) is.at (subst (λ (o : Option CountedLoop). IsStraight (both_deeds (loop_done r on o) (deeds_from r on n fs))) at s))
straight_move r on (suc n) (flow.Until bound k skip ∷ fs) long each nested s =
    let (b, at) = each.0 in
    absurd (subst (λ (o : Option Bound). IsStraight (unless_past r o k (deeds_from r on n (take skip fs)) (deeds_from r on n (drop skip fs)))) at s)
straight_move r on (suc n) (flow.Where condition holding lacking ∷ fs) long each nested s =
    let (c, at) = each.0 in
    absurd (subst (λ (o : Option code.Condition). IsStraight (where_holds r on o (deeds_from r on n (take holding fs)) (deeds_from r on n (take lacking (behind_skip holding fs))) (deeds_from r on n (drop lacking (behind_skip holding fs))))) at s)
straight_move r on (suc n) (flow.Skip count ∷ fs) long each nested s = absurd nested
