-- The flows of a choice: its branches, each within what is done where those before don't hold.
use Rattle.std.proofs.Common.{◌≡◌, ℕ, ◌+◌, ◌-◌, ◌<◌, ◌≤◌, List, [], ◌∷◌, ◌++◌, drop, get_or, length, take, refl, sym, ap, subst, ◌∙◌, append_assoc, append-nil, arith, Option, Some}
use Rattle.std.specs.List.{slice_get}
use Rattle.std.proofs.lemmas.List.{drop-append-le, length-append, take-append-le}
use Rattle.std.proofs.Math.Seq.{drop-length, take-length}
use Rattle.cob_move_condition.specs.declared.condition.Condition as code
use Rattle.cob_move_condition.specs.Conditions.{Condition, condition_of}
use Rattle.cob_move_data.specs.Moves.{Move, Records}
use Rattle.cob_move_deeds.proofs.AppendLemmas.{deeds_same, nested_same}
use Rattle.cob_move_deeds.specs.declared.flow.Flow.{Flow}
use Rattle.cob_move_deeds.specs.declared.flow.Flow.TheVariants as flow
use Rattle.cob_move_deeds.specs.Choices.{When, selection}
use Rattle.cob_move_deeds.specs.Deeds.{Choice, Deeds, IsStraight, Nothing, moves_of_deeds}
use Rattle.cob_move_deeds.specs.Flows.{AreFlows, AreNestedFlows, FlowSupport, IsFlow, behind_first, behind_skip, deeds_from, sender_at, where_holds}
use Rattle.cob_move_deeds.specs.Tests.{Holds, Test}
use Rattle.cob_move.specs.declared.made.BranchFlows.{BranchFlows}
use Rattle.cob_move.specs.DeedsRead.{AreParted, AreTakenBranches, IsConditionAt, TakenBranch, all_deeds, branches_size, chosen, linked_branches, moves_of_whens, taken_branches}
use Rattle.cob_move.proofs.FlowLemmas.{none_nested, nothing_done}
use Rattle.cob_move.proofs.SomeLemmas.{all_append, next}

-- ---- one branch

own_front : (own rest : List Flow) (skip : Flow) → take (length own) (own ++ skip ∷ rest) ≡ own
own_front own rest skip = take-append-le (length own) own (skip ∷ rest) (omega arith) ∙ take-length own

own_behind : (own rest : List Flow) (skip : Flow) → drop (length own) (own ++ skip ∷ rest) ≡ skip ∷ rest
own_behind own rest skip = drop-append-le (length own) own (skip ∷ rest) (omega arith) ∙ ap (λ (t : List Flow). t ++ skip ∷ rest) (drop-length own)

chosen_long : (own rest : List Flow) (skip : Flow) → length (own ++ skip ∷ rest) ≡ length own + 1 + length rest
chosen_long own rest skip = omega (arith, length-append own (skip ∷ rest))

pub chosen_flows : (on : FlowSupport) (number : ℕ) (c : code.Condition) (own rest : List Flow) → slice_get on.conditions number ≡ Some c → AreFlows on own → AreFlows on rest → AreFlows on (chosen number own rest)
chosen_flows on number c own rest at first then =
    let skip : Flow = flow.Skip (length rest) in
    let tail : List Flow = own ++ skip ∷ rest in
    let size = chosen_long own rest skip in
    let left : behind_skip (length own) tail ≡ rest = ap (λ (t : List Flow). behind_first t) (own_behind own rest skip) in
    record {
      each = ((c, at), all_append (IsFlow on) own (skip ∷ rest) first.each (tt, then.each));
      nested = (
        own_behind own rest skip ∙ ap (λ (t : List Flow). skip ∷ t) (sym left),
        subst (λ (t : List Flow). length rest ≤ length t) (sym left) (omega arith),
        subst (λ (t : List Flow). AreNestedFlows (length tail) t) (sym (own_front own rest skip))
            (nested_same (length own) (length tail) own (omega arith) (omega (arith, size)) first.nested),
        subst (λ (t : List Flow). AreNestedFlows (length tail) t) (sym (ap (λ (t : List Flow). take (length rest) t) left ∙ take-length rest))
            (nested_same (length rest) (length tail) rest (omega arith) (omega (arith, size)) then.nested),
        subst (λ (t : List Flow). AreNestedFlows (length tail) t) (sym (ap (λ (t : List Flow). drop (length rest) t) left ∙ drop-length rest)) (none_nested (length tail)),
      );
    }

pub chosen_deeds : (r : Records) (on : FlowSupport) (number : ℕ) (c : code.Condition) (own rest : List Flow) → slice_get on.conditions number ≡ Some c → AreFlows on own → AreFlows on rest
    → all_deeds r on (chosen number own rest) ≡ Choice (Holds (condition_of (sender_at r on) c)) (all_deeds r on own) (all_deeds r on rest) Nothing
chosen_deeds r on number c own rest at first then =
    let skip : Flow = flow.Skip (length rest) in
    let tail : List Flow = own ++ skip ∷ rest in
    let size = chosen_long own rest skip in
    let n = length tail in
    let left : behind_skip (length own) tail ≡ rest = ap (λ (t : List Flow). behind_first t) (own_behind own rest skip) in
    let test = Holds (condition_of (sender_at r on) c) in
    let holding : deeds_from r on n (take (length own) tail) ≡ all_deeds r on own =
    ap (λ (t : List Flow). deeds_from r on n t) (own_front own rest skip) ∙ sym (deeds_same r on (length own) n own first.nested (omega arith) (omega (arith, size))) in
    let lacking : deeds_from r on n (take (length rest) (behind_skip (length own) tail)) ≡ all_deeds r on rest =
    ap (λ (t : List Flow). deeds_from r on n t) (ap (λ (t : List Flow). take (length rest) t) left ∙ take-length rest)
    ∙ sym (deeds_same r on (length rest) n rest then.nested (omega arith) (omega (arith, size))) in
    let behind : deeds_from r on n (drop (length rest) (behind_skip (length own) tail)) ≡ Nothing =
    ap (λ (t : List Flow). deeds_from r on n t) (ap (λ (t : List Flow). drop (length rest) t) left ∙ drop-length rest) ∙ nothing_done r on n in
    ap (λ (o : Option code.Condition). where_holds r on o (deeds_from r on n (take (length own) tail)) (deeds_from r on n (take (length rest) (behind_skip (length own) tail)))
    (deeds_from r on n (drop (length rest) (behind_skip (length own) tail)))) at
    ∙ ap (λ (d : Deeds Test). Choice test d (deeds_from r on n (take (length rest) (behind_skip (length own) tail))) (deeds_from r on n (drop (length rest) (behind_skip (length own) tail)))) holding
    ∙ ap (λ (d : Deeds Test). Choice test (all_deeds r on own) d (deeds_from r on n (drop (length rest) (behind_skip (length own) tail)))) lacking
    ∙ ap (λ (d : Deeds Test). Choice test (all_deeds r on own) (all_deeds r on rest) d) behind

-- ---- several

pub branches_flows : (r : Records) (on : FlowSupport) (ws : List When) (bs : List TakenBranch) (other : List Flow) → AreTakenBranches r on ws bs → AreFlows on other → AreFlows on (linked_branches bs other)
branches_flows r on [] [] other are flows = flows
branches_flows r on [] (b ∷ bs) other are flows = absurd are
branches_flows r on (w ∷ ws) [] other are flows = absurd are
branches_flows r on (w ∷ ws) (b ∷ bs) other ((c, at, means), first, same, others) flows =
    chosen_flows on b.condition c b.flows (linked_branches bs other) at first (branches_flows r on ws bs other others flows)

-- they come to a selection
pub branches_deeds : (r : Records) (on : FlowSupport) (ws : List When) (bs : List TakenBranch) (other : List Flow) → AreTakenBranches r on ws bs → AreFlows on other
    → all_deeds r on (linked_branches bs other) ≡ selection ws (all_deeds r on other)
branches_deeds r on [] [] other are flows = refl
branches_deeds r on [] (b ∷ bs) other are flows = absurd are
branches_deeds r on (w ∷ ws) [] other are flows = absurd are
branches_deeds r on (w ∷ ws) (b ∷ bs) other ((c, at, means), first, same, others) flows =
    let rest = linked_branches bs other in
    chosen_deeds r on b.condition c b.flows rest at first (branches_flows r on ws bs other others flows)
    ∙ ap (λ (t : Condition). Choice (Holds t) (all_deeds r on b.flows) (all_deeds r on rest) Nothing) means
    ∙ ap (λ (d : Deeds Test). Choice (Holds w.condition) d (all_deeds r on rest) Nothing) same
    ∙ ap (λ (d : Deeds Test). Choice (Holds w.condition) w.deeds d Nothing) (branches_deeds r on ws bs other others flows)

pub taken_more : (r : Records) (on : FlowSupport) (ws : List When) (bs : List TakenBranch) (w : When) (b : TakenBranch) → AreTakenBranches r on ws bs → IsConditionAt r on b.condition w.condition → AreFlows on b.flows
    → all_deeds r on b.flows ≡ w.deeds → AreTakenBranches r on (ws ++ w ∷ []) (bs ++ b ∷ [])
taken_more r on [] [] w b are at flows deeds = (at, flows, deeds, tt)
taken_more r on [] (c ∷ bs) w b are at flows deeds = absurd are
taken_more r on (v ∷ ws) [] w b are at flows deeds = absurd are
taken_more r on (v ∷ ws) (c ∷ bs) w b are at flows deeds = (are.0, are.1, are.2, taken_more r on ws bs w b are.3 at flows deeds)

-- none are taken where there is none
pub some_taken : (r : Records) (on : FlowSupport) (ws : List When) (bs : List TakenBranch) → AreTakenBranches r on ws bs → 0 < length bs → 0 < length ws
some_taken r on [] [] are some = some
some_taken r on [] (b ∷ bs) are some = absurd are
some_taken r on (w ∷ ws) bs are some = omega arith

-- ---- selections

pub selection_more : (ws : List When) (w : When) (d : Deeds Test) → selection (ws ++ w ∷ []) d ≡ selection ws (Choice (Holds w.condition) w.deeds d Nothing)
selection_more [] w d = refl
selection_more (v ∷ ws) w d = ap (λ (k : Deeds Test). Choice (Holds v.condition) v.deeds k Nothing) (selection_more ws w d)

pub moves_of_selection : (ws : List When) (d : Deeds Test) → moves_of_deeds (selection ws d) ≡ moves_of_whens ws ++ moves_of_deeds d
moves_of_selection [] d = refl
moves_of_selection (w ∷ ws) d =
    ap (λ (t : List Move). moves_of_deeds w.deeds ++ t) (append-nil (moves_of_deeds (selection ws d)) ∙ moves_of_selection ws d)
    ∙ sym (append_assoc (moves_of_deeds w.deeds) (moves_of_whens ws) (moves_of_deeds d))

pub whens_more : (ws : List When) (w : When) → moves_of_whens (ws ++ w ∷ []) ≡ moves_of_whens ws ++ moves_of_deeds w.deeds
whens_more [] w = append-nil (moves_of_deeds w.deeds)
whens_more (v ∷ ws) w =
    ap (λ (t : List Move). moves_of_deeds v.deeds ++ t) (whens_more ws w) ∙ sym (append_assoc (moves_of_deeds v.deeds) (moves_of_whens ws) (moves_of_deeds w.deeds))

-- a selection with a WHEN begins with a test
pub selection_parted : (ws : List When) (d : Deeds Test) → 0 < length ws → AreParted (selection ws d)
selection_parted [] d some = absurd (omega (arith, some))
selection_parted (w ∷ ws) d some = tt

pub selection_not_straight : (ws : List When) (d : Deeds Test) → 0 < length ws → IsStraight (selection ws d) → ⊥
selection_not_straight [] d some is = absurd (omega (arith, some))
selection_not_straight (w ∷ ws) d some is = is

-- ---- the flows of branches, put one behind another

pub branches_long : (bs : List TakenBranch) (other : List Flow) → length (linked_branches bs other) ≡ branches_size bs other
branches_long [] other = refl
branches_long (b ∷ bs) other = omega (arith, length-append b.flows (flow.Skip (length (linked_branches bs other)) ∷ linked_branches bs other), branches_long bs other)

branch_here : (bs : List BranchFlows) (k : ℕ) (b : BranchFlows) (other : List Flow) (left : ℕ) → k < length bs → b ≡ get_or bs k b → left ≡ branches_size (taken_branches (drop k bs)) other
    → left ≡ length b.flows.items + 2 + branches_size (taken_branches (drop (k + 1) bs)) other
branch_here bs k b other left less is e = e ∙ ap (λ (t : List BranchFlows). branches_size (taken_branches t) other) (next bs k b less is)

pub branches_left : (bs : List BranchFlows) (k : ℕ) (b : BranchFlows) (other : List Flow) (left : ℕ) → k < length bs → b ≡ get_or bs k b → left ≡ branches_size (taken_branches (drop k bs)) other
    → left - (length b.flows.items + 2) ≡ branches_size (taken_branches (drop (k + 1) bs)) other
branches_left bs k b other left less is e = omega (arith, branch_here bs k b other left less is e)

pub branches_same : (bs : List BranchFlows) (k : ℕ) (b : BranchFlows) (other : List Flow) (left : ℕ) (flows begin after : List Flow) → k < length bs → b ≡ get_or bs k b → left ≡ branches_size (taken_branches (drop k bs)) other
    → flows ++ linked_branches (taken_branches (drop k bs)) other ≡ begin
    → after ≡ ((flows ++ flow.Where b.condition (length b.flows.items) (left - (length b.flows.items + 2)) ∷ []) ++ b.flows.items) ++ flow.Skip (left - (length b.flows.items + 2)) ∷ []
    → after ++ linked_branches (taken_branches (drop (k + 1) bs)) other ≡ begin
branches_same bs k b other left flows begin after less is e so made =
    let rest = linked_branches (taken_branches (drop (k + 1) bs)) other in
    let n = left - (length b.flows.items + 2) in
    let size : n ≡ length rest = omega (arith, branches_left bs k b other left less is e, branches_long (taken_branches (drop (k + 1) bs)) other) in
    let test = flow.Where b.condition (length b.flows.items) n in
    ap (λ (t : List Flow). t ++ rest) made
    ∙ append_assoc ((flows ++ test ∷ []) ++ b.flows.items) (flow.Skip n ∷ []) rest
    ∙ append_assoc (flows ++ test ∷ []) b.flows.items (flow.Skip n ∷ rest)
    ∙ append_assoc flows (test ∷ []) (b.flows.items ++ flow.Skip n ∷ rest)
    ∙ ap (λ (m : ℕ). flows ++ flow.Where b.condition (length b.flows.items) m ∷ (b.flows.items ++ flow.Skip m ∷ rest)) size
    ∙ ap (λ (t : List BranchFlows). flows ++ linked_branches (taken_branches t) other) (sym (next bs k b less is))
    ∙ so
