-- Moves that no test stands before, flow by flow.
use Rattle.std.proofs.Common.{◌≡◌, ℕ, zero, suc, ◌+◌, ◌≤◌, Bool, true, false, List, [], ◌∷◌, ◌++◌, Option, Some, None, arith, ap, append-nil, append_assoc, drop, drop-drop, get_or, length, length-append, length-drop, refl, replicate, subst, sym, take, ◌∙◌}
use Rattle.std.specs.List.{AllByRecursion, flat_map, slice_get}
use Rattle.std.proofs.lemmas.Grind.{flat_map-append}
use Rattle.std.proofs.lemmas.List.{length-map, replicate-append-replicate, take-append-drop}
use Rattle.std.proofs.lemmas.Option.{slice_get-get_or, slice_get_within}
use Rattle.cob_codec.specs.declared.reading.Reading.{Reading}
use Rattle.cob_move_data.specs.declared.operands.StatementMoves.{StatementMoves}
use Rattle.cob_move_data.specs.declared.operands.StatementMoves.TheVariants.{Single, Pairs}
use Rattle.cob_move_data.specs.Moves.{Move, Records, moves_by, numbered_move_by, statement_moves_by}
use Rattle.cob_move_apply.specs.Marked.{AreMarkedPrepared, moves_between_marks}
use Rattle.cob_move_apply.specs.declared.marked.MarkedMoves.{MarkedMoves}
use Rattle.cob_move_loops.specs.Turns.{turns}
use Rattle.cob_move_condition.specs.declared.condition.Condition as code
use Rattle.cob_move_deeds.specs.declared.flow.Bound.{Bound}
use Rattle.cob_move_deeds.specs.declared.flow.CountedLoop.{CountedLoop}
use Rattle.cob_move_deeds.specs.declared.flow.Flow.{Flow}
use Rattle.cob_move_deeds.specs.declared.flow.Flow.TheVariants as flow
use Rattle.cob_move_deeds.specs.Deeds.{Choice, Deeds, Moving, Nothing, both_deeds, moves_of_deeds}
use Rattle.cob_move_deeds.specs.Flows.{AreNestedFlows, FlowSupport, IsFlow, IsLoop, behind_skip, deeds_from, loop_done, moves_of_turn, turns_to, unless_past, where_holds}
use Rattle.cob_move_deeds.specs.Tests.{Test, Until, past_bound}
use Rattle.cob_move_deeds.specs.Turns.{turns_from}
use Rattle.cob_move_deeds.proofs.FlowLemmas.{all_behind, all_front}
use Rattle.cob_move_deeds.proofs.SkipLemmas.{all_behind_skip, skip_within}
use Rattle.cob_move_deeds.proofs.LoopLemmas.{turns_all}
use Rattle.cob_back_runs.specs.Tested.{flow_marks, flow_moves, move_count, moves_counted, passed_of, stretches_of, tested_moves, untested_moves}

-- ---- numbers of items

take_short : {A : Type 0} (n : ℕ) (xs : List A) → length (take n xs) ≤ length xs
take_short zero xs = omega arith
take_short (suc n) [] = omega arith
take_short (suc n) (x ∷ xs) = omega (arith, take_short n xs)

-- ---- how many moves there are

statement_counted : (x : Reading) (r : Records) (s : StatementMoves) → length (statement_moves_by x r s) ≡ move_count s
statement_counted x r (Single m) = refl
statement_counted x r (Pairs g) = length-map g.pairs.items (numbered_move_by x r g)

pub counted : (x : Reading) (r : Records) (ss : List StatementMoves) → length (moves_by x r ss) ≡ moves_counted ss
counted x r [] = refl
counted x r (s ∷ ss) =
    length-append (statement_moves_by x r s) (moves_by x r ss)
    ∙ ap (λ (n : ℕ). n + length (moves_by x r ss)) (statement_counted x r s)
    ∙ ap (λ (n : ℕ). move_count s + n) (counted x r ss)

-- a mark for each of two lists
marks_both : {A : Type 0} (xs ys : List A) (mark : Bool) → replicate (length xs) mark ++ replicate (length ys) mark ≡ replicate (length (xs ++ ys)) mark
marks_both xs ys mark = replicate-append-replicate (length xs) (length ys) mark ∙ ap (λ (n : ℕ). replicate n mark) (sym (length-append xs ys))

-- ---- what is done in order

both_moves : {T : Type 0} (d next : Deeds T) → moves_of_deeds (both_deeds d next) ≡ moves_of_deeds d ++ moves_of_deeds next
both_moves Nothing next = refl
both_moves (Moving ms more) next = ap (λ (t : List Move). ms ++ t) (both_moves more next) ∙ sym (append_assoc ms (moves_of_deeds more) (moves_of_deeds next))
both_moves (Choice t holding lacking more) next =
    ap (λ (u : List Move). moves_of_deeds holding ++ (moves_of_deeds lacking ++ u)) (both_moves more next)
    ∙ ap (λ (u : List Move). moves_of_deeds holding ++ u) (sym (append_assoc (moves_of_deeds lacking) (moves_of_deeds more) (moves_of_deeds next)))
    ∙ sym (append_assoc (moves_of_deeds holding) (moves_of_deeds lacking ++ moves_of_deeds more) (moves_of_deeds next))

-- behind a test all moves stand behind one
marked_all : {T : Type 0} (d : Deeds T) → tested_moves true d ≡ replicate (length (moves_of_deeds d)) true
marked_all Nothing = refl
marked_all (Moving ms more) = ap (λ (bs : List Bool). replicate (length ms) true ++ bs) (marked_all more) ∙ marks_both ms (moves_of_deeds more) true
marked_all (Choice t holding lacking more) =
    ap (λ (bs : List Bool). bs ++ (tested_moves true lacking ++ tested_moves true more)) (marked_all holding)
    ∙ ap (λ (bs : List Bool). replicate (length (moves_of_deeds holding)) true ++ (bs ++ tested_moves true more)) (marked_all lacking)
    ∙ ap (λ (bs : List Bool). replicate (length (moves_of_deeds holding)) true ++ (replicate (length (moves_of_deeds lacking)) true ++ bs)) (marked_all more)
    ∙ ap (λ (bs : List Bool). replicate (length (moves_of_deeds holding)) true ++ bs) (marks_both (moves_of_deeds lacking) (moves_of_deeds more) true)
    ∙ marks_both (moves_of_deeds holding) (moves_of_deeds lacking ++ moves_of_deeds more) true

-- ---- loops

turns_untested : {T : Type 0} (until : ℕ → T) (body : ℕ → Deeds T) (by n i : ℕ) (d : Deeds T) → untested_moves (both_deeds (turns_from until body by n i) d) ≡ untested_moves d
turns_untested until body by zero i d = refl
turns_untested until body by (suc n) i d = refl

bound_untested : (r : Records) (m : MarkedMoves) (l : CountedLoop) (o : Option Bound) (d : Deeds Test) → untested_moves (both_deeds (turns_to r m l o) d) ≡ untested_moves d
bound_untested r m l None d = refl
bound_untested r m l (Some b) d = turns_untested (λ number. Until (past_bound r b number)) (λ number. Moving (moves_of_turn r m l number) Nothing) l.by l.turns l.from d

loop_untested : (r : Records) (on : FlowSupport) (o : Option CountedLoop) (d : Deeds Test) → untested_moves (both_deeds (loop_done r on o) d) ≡ untested_moves d
loop_untested r on None d = refl
loop_untested r on (Some l) d = bound_untested r on.moves l (slice_get on.bounds l.bound) d

turns_marked : {T : Type 0} (until : ℕ → T) (body : ℕ → Deeds T) (by n i : ℕ) (d : Deeds T)
    → tested_moves false (both_deeds (turns_from until body by n i) d) ≡ replicate (length (moves_of_deeds (turns_from until body by n i))) true ++ tested_moves false d
turns_marked until body by zero i d = refl
turns_marked {T} until body by (suc n) i d =
    let turn : Deeds T = both_deeds (body i) (turns_from until body by n (i + by)) in
    ap (λ (bs : List Bool). bs ++ tested_moves false d) (marked_all turn ∙ ap (λ (ms : List Move). replicate (length ms) true) (sym (append-nil (moves_of_deeds turn))))

bound_marked : (r : Records) (m : MarkedMoves) (l : CountedLoop) (o : Option Bound) (d : Deeds Test)
    → tested_moves false (both_deeds (turns_to r m l o) d) ≡ replicate (length (moves_of_deeds (turns_to r m l o))) true ++ tested_moves false d
bound_marked r m l None d = refl
bound_marked r m l (Some b) d = turns_marked (λ number. Until (past_bound r b number)) (λ number. Moving (moves_of_turn r m l number) Nothing) l.by l.turns l.from d

loop_marked : (r : Records) (on : FlowSupport) (o : Option CountedLoop) (d : Deeds Test)
    → tested_moves false (both_deeds (loop_done r on o) d) ≡ replicate (length (moves_of_deeds (loop_done r on o))) true ++ tested_moves false d
loop_marked r on None d = refl
loop_marked r on (Some l) d = bound_marked r on.moves l (slice_get on.bounds l.bound) d

-- ---- flows

-- flows with a skip among them, in front of others: what is taken up to them, and what stands behind them
passed_behind : (holding lacking : ℕ) (fs : List Flow) → drop holding fs ≡ flow.Skip lacking ∷ behind_skip holding fs → drop (holding + 1 + lacking) fs ≡ drop lacking (behind_skip holding fs)
passed_behind holding lacking fs e =
    ap (λ (n : ℕ). drop n fs) (sum holding lacking)
    ∙ sym (drop-drop (suc lacking) holding fs)
    ∙ ap (λ (gs : List Flow). drop (suc lacking) gs) e
  where
    sum : (h l : ℕ) → h + 1 + l ≡ h + suc l
    sum h l = omega arith

passed_front : (holding lacking : ℕ) (fs : List Flow) → drop holding fs ≡ flow.Skip lacking ∷ behind_skip holding fs
    → take (holding + 1 + lacking) fs ≡ take holding fs ++ flow.Skip lacking ∷ take lacking (behind_skip holding fs)
passed_front zero lacking fs e = ap (λ (n : ℕ). take n fs) (sum lacking) ∙ ap (λ (gs : List Flow). take (suc lacking) gs) e
  where
    sum : (l : ℕ) → 0 + 1 + l ≡ suc l
    sum l = omega arith
passed_front (suc holding) lacking [] e = absurd (omega (arith, ap length e))
passed_front (suc holding) lacking (f ∷ fs) e =
    ap (λ (n : ℕ). take n (f ∷ fs)) (sum holding lacking) ∙ ap (λ (gs : List Flow). f ∷ gs) (passed_front holding lacking fs e)
  where
    sum : (h l : ℕ) → suc h + 1 + l ≡ suc (h + 1 + l)
    sum h l = omega arith

-- their moves are those that may be carried out, one flow's behind another's
moves_of_flows : (r : Records) (on : FlowSupport) (n : ℕ) (fs : List Flow) → AllByRecursion (IsFlow on) fs → AreNestedFlows n fs → length fs ≤ n → moves_of_deeds (deeds_from r on n fs) ≡ flat_map (flow_moves r on) fs
moves_of_flows r on zero [] each nested few = refl
moves_of_flows r on zero (f ∷ fs) each nested few = absurd (omega (arith, few))
moves_of_flows r on (suc n) [] each nested few = refl
moves_of_flows r on (suc n) (flow.Moves number ∷ fs) each nested few =
    ap (λ (ms : List Move). moves_between_marks r on.moves number (number + 1) ++ ms) (moves_of_flows r on n fs each.1 nested (omega (arith, few)))
moves_of_flows r on (suc n) (flow.Turns number ∷ fs) each nested few =
    both_moves (loop_done r on (slice_get on.loops number)) (deeds_from r on n fs)
    ∙ ap (λ (ms : List Move). moves_of_deeds (loop_done r on (slice_get on.loops number)) ++ ms) (moves_of_flows r on n fs each.1 nested (omega (arith, few)))
moves_of_flows r on (suc n) (flow.Until bound number skip ∷ fs) each (within, inside, last) few =
    let (b, at) = each.0 in
    let front : Deeds Test = deeds_from r on n (take skip fs) in
    let behind : Deeds Test = deeds_from r on n (drop skip fs) in
    ap (λ (o : Option Bound). moves_of_deeds (unless_past r o number front behind)) at
    ∙ ap (λ (ms : List Move). ms ++ moves_of_deeds behind) (moves_of_flows r on n (take skip fs) (all_front (IsFlow on) skip fs each.1) inside (omega (arith, few, take_short skip fs)))
    ∙ ap (λ (ms : List Move). flat_map (flow_moves r on) (take skip fs) ++ ms) (moves_of_flows r on n (drop skip fs) (all_behind (IsFlow on) skip fs each.1) last (omega (arith, few, length-drop skip fs)))
    ∙ sym (flat_map-append (flow_moves r on) (take skip fs) (drop skip fs))
    ∙ ap (λ (gs : List Flow). flat_map (flow_moves r on) gs) (take-append-drop skip fs)
moves_of_flows r on (suc n) (flow.Where condition holding lacking ∷ fs) each (skip, within, inside, skipped, last) few =
    let (c, at) = each.0 in
    let count = skip_within holding lacking fs skip in
    let left : List Flow = behind_skip holding fs in
    let own = all_behind_skip (IsFlow on) holding fs (all_behind (IsFlow on) holding fs each.1) in
    let front : Deeds Test = deeds_from r on n (take holding fs) in
    let others : Deeds Test = deeds_from r on n (take lacking left) in
    let behind : Deeds Test = deeds_from r on n (drop lacking left) in
    let moved : List Flow → List Move = λ gs. flat_map (flow_moves r on) gs in
    ap (λ (o : Option code.Condition). moves_of_deeds (where_holds r on o front others behind)) at
    ∙ ap (λ (ms : List Move). ms ++ (moves_of_deeds others ++ moves_of_deeds behind)) (moves_of_flows r on n (take holding fs) (all_front (IsFlow on) holding fs each.1) inside (omega (arith, few, take_short holding fs)))
    ∙ ap (λ (ms : List Move). moved (take holding fs) ++ (ms ++ moves_of_deeds behind)) (moves_of_flows r on n (take lacking left) (all_front (IsFlow on) lacking left own) skipped (omega (arith, few, count, take_short lacking left)))
    ∙ ap (λ (ms : List Move). moved (take holding fs) ++ (moved (take lacking left) ++ ms)) (moves_of_flows r on n (drop lacking left) (all_behind (IsFlow on) lacking left own) last (omega (arith, few, count, length-drop lacking left)))
    ∙ ap (λ (ms : List Move). moved (take holding fs) ++ ms) (sym (flat_map-append (flow_moves r on) (take lacking left) (drop lacking left)) ∙ ap moved (take-append-drop lacking left))
    ∙ sym (flat_map-append (flow_moves r on) (take holding fs) (flow.Skip lacking ∷ left))
    ∙ ap moved (ap (λ (gs : List Flow). take holding fs ++ gs) (sym skip) ∙ take-append-drop holding fs)
moves_of_flows r on (suc n) (flow.Skip count ∷ fs) each nested few = absurd nested

-- a flow, and then those behind what it may pass over
next_untested : (r : Records) (on : FlowSupport) (n : ℕ) (f : Flow) (fs : List Flow) → IsFlow on f → AreNestedFlows (suc n) (f ∷ fs)
    → untested_moves (deeds_from r on (suc n) (f ∷ fs)) ≡ stretches_of r on f ++ untested_moves (deeds_from r on n (drop (passed_of f) fs))
next_untested r on n (flow.Moves number) fs is nested = refl
next_untested r on n (flow.Turns number) fs is nested = loop_untested r on (slice_get on.loops number) (deeds_from r on n fs)
next_untested r on n (flow.Until bound number skip) fs is nested =
    let (b, at) = is in
    ap (λ (o : Option Bound). untested_moves (unless_past r o number (deeds_from r on n (take skip fs)) (deeds_from r on n (drop skip fs)))) at
next_untested r on n (flow.Where condition holding lacking) fs is nested =
    let (c, at) = is in
    let left : List Flow = behind_skip holding fs in
    ap (λ (o : Option code.Condition). untested_moves (where_holds r on o (deeds_from r on n (take holding fs)) (deeds_from r on n (take lacking left)) (deeds_from r on n (drop lacking left)))) at
    ∙ ap (λ (gs : List Flow). untested_moves (deeds_from r on n gs)) (sym (passed_behind holding lacking fs nested.0))
next_untested r on n (flow.Skip count) fs is nested = absurd nested

-- those behind are nested as all were
next_nested : (n : ℕ) (f : Flow) (fs : List Flow) → AreNestedFlows (suc n) (f ∷ fs) → AreNestedFlows n (drop (passed_of f) fs)
next_nested n (flow.Moves number) fs nested = nested
next_nested n (flow.Turns number) fs nested = nested
next_nested n (flow.Until bound number skip) fs (within, inside, behind) = behind
next_nested n (flow.Where condition holding lacking) fs (skip, within, inside, skipped, behind) =
    subst (λ (gs : List Flow). AreNestedFlows n gs) (sym (passed_behind holding lacking fs skip)) behind
next_nested n (flow.Skip count) fs nested = absurd nested

next_marked : (r : Records) (on : FlowSupport) (n : ℕ) (f : Flow) (fs : List Flow) → IsFlow on f → AllByRecursion (IsFlow on) fs → AreNestedFlows (suc n) (f ∷ fs) → length fs ≤ n
    → tested_moves false (deeds_from r on (suc n) (f ∷ fs))
    ≡ flow_marks r on false f ++ (replicate (length (flat_map (flow_moves r on) (take (passed_of f) fs))) true ++ tested_moves false (deeds_from r on n (drop (passed_of f) fs)))
next_marked r on n (flow.Moves number) fs is each nested few = refl
next_marked r on n (flow.Turns number) fs is each nested few = loop_marked r on (slice_get on.loops number) (deeds_from r on n fs)
next_marked r on n (flow.Until bound number skip) fs is each (within, inside, last) few =
    let (b, at) = is in
    let front : Deeds Test = deeds_from r on n (take skip fs) in
    let behind : Deeds Test = deeds_from r on n (drop skip fs) in
    ap (λ (o : Option Bound). tested_moves false (unless_past r o number front behind)) at
    ∙ ap (λ (bs : List Bool). bs ++ tested_moves false behind)
    (marked_all front ∙ ap (λ (ms : List Move). replicate (length ms) true) (moves_of_flows r on n (take skip fs) (all_front (IsFlow on) skip fs each) inside (omega (arith, few, take_short skip fs))))
next_marked r on n (flow.Where condition holding lacking) fs is each (skip, within, inside, skipped, last) few =
    let (c, at) = is in
    let count = skip_within holding lacking fs skip in
    let left : List Flow = behind_skip holding fs in
    let own = all_behind_skip (IsFlow on) holding fs (all_behind (IsFlow on) holding fs each) in
    let front : Deeds Test = deeds_from r on n (take holding fs) in
    let others : Deeds Test = deeds_from r on n (take lacking left) in
    let behind : Deeds Test = deeds_from r on n (drop lacking left) in
    let moved : List Flow → List Move = λ gs. flat_map (flow_moves r on) gs in
    ap (λ (o : Option code.Condition). tested_moves false (where_holds r on o front others behind)) at
    ∙ ap (λ (bs : List Bool). bs ++ (tested_moves true others ++ tested_moves false behind))
    (marked_all front ∙ ap (λ (ms : List Move). replicate (length ms) true) (moves_of_flows r on n (take holding fs) (all_front (IsFlow on) holding fs each) inside (omega (arith, few, take_short holding fs))))
    ∙ ap (λ (bs : List Bool). replicate (length (moved (take holding fs))) true ++ (bs ++ tested_moves false behind))
    (marked_all others ∙ ap (λ (ms : List Move). replicate (length ms) true) (moves_of_flows r on n (take lacking left) (all_front (IsFlow on) lacking left own) skipped (omega (arith, few, count, take_short lacking left))))
    ∙ sym (append_assoc (replicate (length (moved (take holding fs))) true) (replicate (length (moved (take lacking left))) true) (tested_moves false behind))
    ∙ ap (λ (bs : List Bool). bs ++ tested_moves false behind) (marks_both (moved (take holding fs)) (moved (take lacking left)) true)
    ∙ ap (λ (ms : List Move). replicate (length ms) true ++ tested_moves false behind)
    (sym (flat_map-append (flow_moves r on) (take holding fs) (flow.Skip lacking ∷ take lacking left)) ∙ ap moved (sym (passed_front holding lacking fs skip)))
    ∙ ap (λ (gs : List Flow). replicate (length (moved (take (holding + 1 + lacking) fs))) true ++ tested_moves false (deeds_from r on n gs)) (sym (passed_behind holding lacking fs skip))
next_marked r on n (flow.Skip count) fs is each nested few = absurd nested

-- a flow that a test stands before
tested_flow : (r : Records) (on : FlowSupport) (f : Flow) → flow_marks r on true f ≡ replicate (length (flow_moves r on f)) true
tested_flow r on (flow.Moves number) = refl
tested_flow r on (flow.Turns number) = refl
tested_flow r on (flow.Until bound number skip) = refl
tested_flow r on (flow.Where condition holding lacking) = refl
tested_flow r on (flow.Skip count) = refl

none_from : (r : Records) (on : FlowSupport) (n : ℕ) → deeds_from r on n [] ≡ Nothing
none_from r on zero = refl
none_from r on (suc n) = refl

-- ---- one flow behind another

-- The flows that are left come to what is left of an answer.
pub record LeftOf (A : Type 0) (on : FlowSupport) (answer : ℕ → List Flow → List A) (rest : List Flow) (so whole : List A) : Type 0 where
  pub each : AllByRecursion (IsFlow on) rest
  pub left : (n : ℕ) × (length rest ≤ n) × AreNestedFlows n rest × (so ++ answer n rest ≡ whole)

abbrev pub untested_from : Records → FlowSupport → ℕ → List Flow → List (List Move)
untested_from r on n fs = untested_moves (deeds_from r on n fs)

abbrev pub marks_from : Records → FlowSupport → ℕ → List Flow → List Bool
marks_from r on n fs = tested_moves false (deeds_from r on n fs)

pub untested_first : (r : Records) (on : FlowSupport) (fs : List Flow) (so : List (List Move)) → AllByRecursion (IsFlow on) fs → AreNestedFlows (length fs) fs → so ≡ []
    → LeftOf (List Move) on (untested_from r on) fs so (untested_from r on (length fs) fs)
untested_first r on fs so each nested none = record {
  each = each;
  left = (length fs, omega arith, nested, ap (λ (xs : List (List Move)). xs ++ untested_from r on (length fs) fs) none);
}

pub untested_behind : (r : Records) (on : FlowSupport) (f : Flow) (fs rest : List Flow) (so own whole : List (List Move)) → LeftOf (List Move) on (untested_from r on) (f ∷ fs) so whole
    → own ≡ so ++ stretches_of r on f → rest ≡ drop (passed_of f) fs → LeftOf (List Move) on (untested_from r on) rest own whole
untested_behind r on f fs rest so own whole before is behind = let (n, few, nested, left) = before.left in from n few nested left
  where
    from : (n : ℕ) → length (f ∷ fs) ≤ n → AreNestedFlows n (f ∷ fs) → so ++ untested_from r on n (f ∷ fs) ≡ whole → LeftOf (List Move) on (untested_from r on) rest own whole
    from zero few nested left = absurd (omega (arith, few))
    from (suc n) few nested left = record {
      each = subst (λ (gs : List Flow). AllByRecursion (IsFlow on) gs) (sym behind) (all_behind (IsFlow on) (passed_of f) fs before.each.1);
      left = (
        n,
        omega (arith, few, ap length behind, length-drop (passed_of f) fs),
        subst (λ (gs : List Flow). AreNestedFlows n gs) (sym behind) (next_nested n f fs nested),
        ap (λ (xs : List (List Move)). xs ++ untested_from r on n rest) is
            ∙ append_assoc so (stretches_of r on f) (untested_from r on n rest)
            ∙ ap (λ (gs : List Flow). so ++ (stretches_of r on f ++ untested_from r on n gs)) behind
            ∙ ap (λ (xs : List (List Move)). so ++ xs) (sym (next_untested r on n f fs before.each.0 nested))
            ∙ left,
      );
    }

pub untested_whole : (r : Records) (on : FlowSupport) (rest : List Flow) (so whole : List (List Move)) → LeftOf (List Move) on (untested_from r on) rest so whole → length rest ≡ 0 → so ≡ whole
untested_whole r on [] so whole before none =
    let (n, few, nested, left) = before.left in
    sym (append-nil so) ∙ ap (λ (d : Deeds Test). so ++ untested_moves d) (sym (none_from r on n)) ∙ left
untested_whole r on (f ∷ fs) so whole before none = absurd (omega (arith, none))

pub marks_first : (r : Records) (on : FlowSupport) (fs : List Flow) (so : List Bool) → AllByRecursion (IsFlow on) fs → AreNestedFlows (length fs) fs → so ≡ [] → LeftOf Bool on (marks_from r on) fs so (marks_from r on (length fs) fs)
marks_first r on fs so each nested none = record {
  each = each;
  left = (length fs, omega arith, nested, ap (λ (xs : List Bool). xs ++ marks_from r on (length fs) fs) none);
}

pub marks_behind : (r : Records) (on : FlowSupport) (f : Flow) (fs inside rest : List Flow) (so mid own whole : List Bool) → LeftOf Bool on (marks_from r on) (f ∷ fs) so whole
    → mid ≡ so ++ flow_marks r on false f → own ≡ mid ++ replicate (length (flat_map (flow_moves r on) inside)) true → inside ≡ take (passed_of f) fs → rest ≡ drop (passed_of f) fs
    → LeftOf Bool on (marks_from r on) rest own whole
marks_behind r on f fs inside rest so mid own whole before first is within behind = let (n, few, nested, left) = before.left in from n few nested left
  where
    from : (n : ℕ) → length (f ∷ fs) ≤ n → AreNestedFlows n (f ∷ fs) → so ++ marks_from r on n (f ∷ fs) ≡ whole → LeftOf Bool on (marks_from r on) rest own whole
    from zero few nested left = absurd (omega (arith, few))
    from (suc n) few nested left =
        let marks : List Flow → List Bool = λ gs. replicate (length (flat_map (flow_moves r on) gs)) true in record {
          each = subst (λ (gs : List Flow). AllByRecursion (IsFlow on) gs) (sym behind) (all_behind (IsFlow on) (passed_of f) fs before.each.1);
          left = (
            n,
            omega (arith, few, ap length behind, length-drop (passed_of f) fs),
            subst (λ (gs : List Flow). AreNestedFlows n gs) (sym behind) (next_nested n f fs nested),
            ap (λ (xs : List Bool). xs ++ marks_from r on n rest) (is ∙ ap (λ (xs : List Bool). xs ++ marks inside) first)
                ∙ append_assoc (so ++ flow_marks r on false f) (marks inside) (marks_from r on n rest)
                ∙ append_assoc so (flow_marks r on false f) (marks inside ++ marks_from r on n rest)
                ∙ ap (λ (gs : List Flow). so ++ (flow_marks r on false f ++ (marks gs ++ marks_from r on n rest))) within
                ∙ ap (λ (gs : List Flow). so ++ (flow_marks r on false f ++ (marks (take (passed_of f) fs) ++ marks_from r on n gs))) behind
                ∙ ap (λ (xs : List Bool). so ++ xs) (sym (next_marked r on n f fs before.each.0 before.each.1 nested (omega (arith, few))))
                ∙ left,
          );
        }

pub marks_whole : (r : Records) (on : FlowSupport) (rest : List Flow) (so whole : List Bool) → LeftOf Bool on (marks_from r on) rest so whole → length rest ≡ 0 → so ≡ whole
marks_whole r on [] so whole before none =
    let (n, few, nested, left) = before.left in
    sym (append-nil so) ∙ ap (λ (d : Deeds Test). so ++ tested_moves false d) (sym (none_from r on n)) ∙ left
marks_whole r on (f ∷ fs) so whole before none = absurd (omega (arith, none))

-- ---- marks one behind another

-- so many marks, and then as many as are left
pub marks_more : (so own whole : List Bool) (n m : ℕ) (mark : Bool) → own ≡ so ++ replicate n mark → so ++ replicate (n + m) mark ≡ whole → own ++ replicate m mark ≡ whole
marks_more so own whole n m mark is left =
    ap (λ (xs : List Bool). xs ++ replicate m mark) is
    ∙ append_assoc so (replicate n mark) (replicate m mark)
    ∙ ap (λ (xs : List Bool). so ++ xs) (replicate-append-replicate n m mark)
    ∙ left

-- as many as a flow and those behind it have
pub flow_more : (r : Records) (on : FlowSupport) (f : Flow) (fs : List Flow) (so own whole : List Bool) → own ≡ so ++ flow_marks r on true f
    → so ++ replicate (length (flat_map (flow_moves r on) (f ∷ fs))) true ≡ whole → own ++ replicate (length (flat_map (flow_moves r on) fs)) true ≡ whole
flow_more r on f fs so own whole is left =
    let rest : List Move = flat_map (flow_moves r on) fs in
    ap (λ (xs : List Bool). xs ++ replicate (length rest) true) (is ∙ ap (λ (xs : List Bool). so ++ xs) (tested_flow r on f))
    ∙ append_assoc so (replicate (length (flow_moves r on f)) true) (replicate (length rest) true)
    ∙ ap (λ (xs : List Bool). so ++ xs) (marks_both (flow_moves r on f) rest true)
    ∙ left

-- no flow is left
pub flows_done : (r : Records) (on : FlowSupport) (rest : List Flow) (so whole : List Bool) → length rest ≡ 0 → so ++ replicate (length (flat_map (flow_moves r on) rest)) true ≡ whole → so ≡ whole
flows_done r on [] so whole none left = sym (append-nil so) ∙ left
flows_done r on (f ∷ fs) so whole none left = absurd (omega (arith, none))

-- ---- the turns of a loop

moves_of_turns : {T : Type 0} (until : ℕ → T) (body : ℕ → List Move) (by n i : ℕ) → moves_of_deeds (turns_from until (λ j. Moving (body j) Nothing) by n i) ≡ turns body by n i
moves_of_turns until body by zero i = refl
moves_of_turns until body by (suc n) i =
    append-nil (body i ++ moves_of_deeds (turns_from until (λ j. Moving (body j) Nothing) by n (i + by)))
    ∙ ap (λ (ms : List Move). body i ++ ms) (moves_of_turns until body by n (i + by))

-- the loop with a number that is there
pub loop_there : (P : CountedLoop → Type 0) (given own : List CountedLoop) (n : ℕ) (d : CountedLoop) → own ≡ given → (l : CountedLoop) × (slice_get given n ≡ Some l) × P l → slice_get given n ≡ Some (get_or own n d)
loop_there P given own n d same (l, at, is) =
    ap (λ (ls : List CountedLoop). slice_get ls n) (sym same)
    ∙ slice_get-get_or own n d (slice_get_within own n l (ap (λ (ls : List CountedLoop). slice_get ls n) same ∙ at))

-- they lie between the mark before the first and the mark behind the last
pub loop_moves : (r : Records) (on : FlowSupport) (l : CountedLoop) → AreMarkedPrepared r on.moves → IsLoop on l
    → moves_of_deeds (loop_done r on (Some l)) ≡ moves_between_marks r on.moves l.first (l.first + l.turns)
loop_moves r on l prepared is =
    ap (λ (o : Option Bound). moves_of_deeds (turns_to r on.moves l o)) is.at
    ∙ moves_of_turns (λ number. Until (past_bound r is.bound number)) (λ number. moves_of_turn r on.moves l number) l.by l.turns l.from
    ∙ turns_all r on.moves l l.turns prepared is.grows is.marks
