-- Flows one behind another, and what they come to.
use Rattle.std.proofs.Common.{◌≡◌, ℕ, zero, suc, ◌+◌, ◌-◌, ◌*◌, ◌<◌, ◌≤◌, List, [], ◌∷◌, ◌++◌, drop, get_or, length, take, refl, sym, ap, subst, ◌∙◌, append_assoc, arith, length-append, Some}
use Rattle.std.specs.Global.{Vec}
use Rattle.std.specs.List.{slice_get}
use Rattle.std.proofs.Math.Seq.{drop-length, take-length}
use Rattle.cob_move_data.specs.Moves.{Move, Records}
use Rattle.cob_move_deeds.specs.declared.flow.Bound.{Bound}
use Rattle.cob_move_deeds.specs.declared.flow.Flow.{Flow}
use Rattle.cob_move_deeds.specs.declared.flow.Flow.TheVariants as flow
use Rattle.cob_move_deeds.specs.Deeds.{Choice, Deeds, Moving, Nothing, both_deeds}
use Rattle.cob_move_deeds.specs.Flows.{AreFlows, AreNestedFlows, FlowSupport, deeds_from, unless_past}
use Rattle.cob_move_deeds.proofs.AppendLemmas.{are_flows_behind, flows_behind}
use Rattle.cob_move_deeds.specs.Tests.{Test, Until, past_bound}
use Rattle.cob_move_deeds.specs.Turns.{turns_from}
use Rattle.cob_move.specs.Joined.{before_deeds, joined_deeds}
use Rattle.cob_move.specs.DeedsRead.{AreParted, AreTurns, all_deeds, flow_lists, linked_size, linked_turns, tested}
use Rattle.cob_move.proofs.SomeLemmas.{next}

-- ---- what is done, one behind another

pub both_assoc : {T : Type 0} (a b c : Deeds T) → both_deeds (both_deeds a b) c ≡ both_deeds a (both_deeds b c)
both_assoc Nothing b c = refl
both_assoc (Moving ms more) b c = ap (λ d. Moving ms d) (both_assoc more b c)
both_assoc (Choice t holding lacking more) b c = ap (λ d. Choice t holding lacking d) (both_assoc more b c)

pub both_nothing : {T : Type 0} (a : Deeds T) → both_deeds a Nothing ≡ a
both_nothing Nothing = refl
both_nothing (Moving ms more) = ap (λ d. Moving ms d) (both_nothing more)
both_nothing (Choice t holding lacking more) = ap (λ d. Choice t holding lacking d) (both_nothing more)

before_before : {T : Type 0} (ms ns : List Move) (d : Deeds T) → before_deeds ms (before_deeds ns d) ≡ before_deeds (ms ++ ns) d
before_before ms ns Nothing = refl
before_before ms ns (Moving own more) = ap (λ t. Moving t more) (sym (append_assoc ms ns own))
before_before ms ns (Choice t holding lacking more) = refl

before_joined : {T : Type 0} (ms : List Move) (a c : Deeds T) → joined_deeds (before_deeds ms a) c ≡ before_deeds ms (joined_deeds a c)
before_joined ms Nothing c = refl
before_joined ms (Moving own more) c = sym (before_before ms own (joined_deeds more c))
before_joined ms (Choice t holding lacking more) c = refl

pub joined_assoc : {T : Type 0} (a b c : Deeds T) → joined_deeds (joined_deeds a b) c ≡ joined_deeds a (joined_deeds b c)
joined_assoc Nothing b c = refl
joined_assoc (Moving ms more) b c = before_joined ms (joined_deeds more b) c ∙ ap (λ d. before_deeds ms d) (joined_assoc more b c)
joined_assoc (Choice t holding lacking more) b c = ap (λ d. Choice t holding lacking d) (joined_assoc more b c)

-- behind a test nothing is joined
pub parted_joined : {T : Type 0} (a b c : Deeds T) → AreParted a → joined_deeds (both_deeds a b) c ≡ both_deeds a (joined_deeds b c)
parted_joined Nothing b c is = refl
parted_joined (Moving ms Nothing) b c is = absurd is
parted_joined (Moving ms (Moving own more)) b c is = absurd is
parted_joined (Moving ms (Choice t holding lacking more)) b c is = ap (λ d. Moving ms (Choice t holding lacking d)) (parted_joined more b c is)
parted_joined (Choice t holding lacking more) b c is = ap (λ d. Choice t holding lacking d) (parted_joined more b c is)

-- ---- flows one behind another

pub nothing_done : (r : Records) (on : FlowSupport) (n : ℕ) → deeds_from r on n [] ≡ Nothing
nothing_done r on zero = refl
nothing_done r on (suc n) = refl

pub none_nested : (n : ℕ) → AreNestedFlows n []
none_nested zero = refl
none_nested (suc n) = tt

-- the one flows, and then the others
pub both_flows : (r : Records) (on : FlowSupport) (fs gs : List Flow) → AreFlows on fs → AreFlows on gs → all_deeds r on (fs ++ gs) ≡ both_deeds (all_deeds r on fs) (all_deeds r on gs)
both_flows r on fs gs first then = flows_behind r on fs gs first then

-- ---- the flows of a loop to an item

test_flows : (on : FlowSupport) (bound number : ℕ) (b : Bound) (rest : List Flow) → slice_get on.bounds bound ≡ Some b → AreFlows on rest → AreFlows on (tested bound number rest)
test_flows on bound number b rest at are = record {
  each = ((b, at), are.each);
  nested = (
    omega arith,
    subst (λ t. AreNestedFlows (length rest) t) (sym (take-length rest)) are.nested,
    subst (λ t. AreNestedFlows (length rest) t) (sym (drop-length rest)) (none_nested (length rest)),
  );
}

test_deeds : (r : Records) (on : FlowSupport) (bound number : ℕ) (b : Bound) (rest : List Flow) → slice_get on.bounds bound ≡ Some b
    → all_deeds r on (tested bound number rest) ≡ Choice (Until (past_bound r b number)) Nothing (all_deeds r on rest) Nothing
test_deeds r on bound number b rest at =
    ap (λ o. unless_past r o number (deeds_from r on (length rest) (take (length rest) rest)) (deeds_from r on (length rest) (drop (length rest) rest))) at
    ∙ ap (λ t. Choice (Until (past_bound r b number)) Nothing (deeds_from r on (length rest) t) (deeds_from r on (length rest) (drop (length rest) rest))) (take-length rest)
    ∙ ap (λ t. Choice (Until (past_bound r b number)) Nothing (all_deeds r on rest) (deeds_from r on (length rest) t)) (drop-length rest)
    ∙ ap (λ d. Choice (Until (past_bound r b number)) Nothing (all_deeds r on rest) d) (nothing_done r on (length rest))

pub no_flows : (on : FlowSupport) → AreFlows on []
no_flows on = record { each = tt; nested = refl }

pub linked_flows : (r : Records) (on : FlowSupport) (f : ℕ → Deeds Test) (bound by i : ℕ) (b : Bound) (turns : List (List Flow)) → slice_get on.bounds bound ≡ Some b → AreTurns r on f by i turns
    → AreFlows on (linked_turns bound by i turns)
linked_flows r on f bound by i b [] at are = test_flows on bound i b [] at (no_flows on)
linked_flows r on f bound by i b (fs ∷ turns) at are =
    test_flows on bound i b (fs ++ linked_turns bound by (i + by) turns) at (are_flows_behind on fs (linked_turns bound by (i + by) turns) are.0 (linked_flows r on f bound by (i + by) b turns at are.2))

-- they come to its turns, each behind its test
pub linked_deeds : (r : Records) (on : FlowSupport) (f : ℕ → Deeds Test) (bound by i : ℕ) (b : Bound) (turns : List (List Flow)) → slice_get on.bounds bound ≡ Some b → AreTurns r on f by i turns
    → all_deeds r on (linked_turns bound by i turns) ≡ turns_from (λ j. Until (past_bound r b j)) f by (length turns) i
linked_deeds r on f bound by i b [] at are = test_deeds r on bound i b [] at
linked_deeds r on f bound by i b (fs ∷ turns) at are =
    let rest = linked_turns bound by (i + by) turns in
    test_deeds r on bound i b (fs ++ rest) at
    ∙ ap (λ d. Choice (Until (past_bound r b i)) Nothing d Nothing)
    (both_flows r on fs rest are.0 (linked_flows r on f bound by (i + by) b turns at are.2) ∙ ap (λ d. both_deeds d (all_deeds r on rest)) are.1 ∙ ap (λ d. both_deeds (f i) d) (linked_deeds r on f bound by (i + by) b turns at are.2))

-- ---- what is joined behind a loop, and before it

pub turns_parted : {T : Type 0} (until : ℕ → T) (f : ℕ → Deeds T) (by n i : ℕ) → AreParted (turns_from until f by n i)
turns_parted until f by zero i = tt
turns_parted until f by (suc n) i = tt

pub both_parted : {T : Type 0} (a b : Deeds T) → AreParted a → AreParted b → AreParted (both_deeds a b)
both_parted Nothing b is others = others
both_parted (Moving ms Nothing) b is others = absurd is
both_parted (Moving ms (Moving own more)) b is others = absurd is
both_parted (Moving ms (Choice t holding lacking more)) b is others = both_parted more b is others
both_parted (Choice t holding lacking more) b is others = both_parted more b is others

pub before_parted : {T : Type 0} (ms : List Move) (until : ℕ → T) (f : ℕ → Deeds T) (by n i : ℕ) → AreParted (Moving ms (turns_from until f by n i))
before_parted ms until f by zero i = tt
before_parted ms until f by (suc n) i = tt

pub before_turns : {T : Type 0} (ms : List Move) (until : ℕ → T) (f : ℕ → Deeds T) (by n i : ℕ) → before_deeds ms (turns_from until f by n i) ≡ Moving ms (turns_from until f by n i)
before_turns ms until f by zero i = refl
before_turns ms until f by (suc n) i = refl

-- ---- the flows of turns, put one behind another

linked_long : (bound by i : ℕ) (turns : List (List Flow)) → length (linked_turns bound by i turns) ≡ linked_size turns
linked_long bound by i [] = refl
linked_long bound by i (fs ∷ turns) = omega (arith, length-append fs (linked_turns bound by (i + by) turns), linked_long bound by (i + by) turns)

linked_here : (turns : List (Vec Flow)) (k : ℕ) (own : Vec Flow) (left : ℕ) → k < length turns → own ≡ get_or turns k own → left ≡ linked_size (flow_lists (drop k turns))
    → left ≡ length own.items + 1 + linked_size (flow_lists (drop (k + 1) turns))
linked_here turns k own left less is e = e ∙ ap (λ (t : List (Vec Flow)). linked_size (flow_lists t)) (next turns k own less is)

pub linked_left : (turns : List (Vec Flow)) (k : ℕ) (own : Vec Flow) (left : ℕ) → k < length turns → own ≡ get_or turns k own → left ≡ linked_size (flow_lists (drop k turns))
    → left - 1 - length own.items ≡ linked_size (flow_lists (drop (k + 1) turns))
linked_left turns k own left less is e = omega (arith, linked_here turns k own left less is e)

pub linked_same : (turns : List (Vec Flow)) (k : ℕ) (own : Vec Flow) (left bound by number : ℕ) (flows begin after : List Flow) → k < length turns → own ≡ get_or turns k own → left ≡ linked_size (flow_lists (drop k turns))
    → flows ++ linked_turns bound by number (flow_lists (drop k turns)) ≡ begin → after ≡ (flows ++ flow.Until bound number (left - 1) ∷ []) ++ own.items
    → after ++ linked_turns bound by (number + by) (flow_lists (drop (k + 1) turns)) ≡ begin
linked_same turns k own left bound by number flows begin after less is e so made =
    let rest = linked_turns bound by (number + by) (flow_lists (drop (k + 1) turns)) in
    let size : left - 1 ≡ length (own.items ++ rest) =
    omega (arith, linked_here turns k own left less is e, length-append own.items rest, linked_long bound by (number + by) (flow_lists (drop (k + 1) turns))) in
    ap (λ (t : List Flow). t ++ rest) made
    ∙ append_assoc (flows ++ flow.Until bound number (left - 1) ∷ []) own.items rest
    ∙ append_assoc flows (flow.Until bound number (left - 1) ∷ []) (own.items ++ rest)
    ∙ ap (λ (n : ℕ). flows ++ flow.Until bound number n ∷ (own.items ++ rest)) size
    ∙ ap (λ (t : List (Vec Flow)). flows ++ linked_turns bound by number (flow_lists t)) (sym (next turns k own less is))
    ∙ so
