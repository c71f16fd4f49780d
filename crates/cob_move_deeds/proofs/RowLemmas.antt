-- Turns in a row, carried out as the moves between two marks.
use Rattle.std.proofs.Common.{◌≡◌, ℕ, ◌+◌, ◌<◌, ◌≤◌, List, [], ◌∷◌, ◌++◌, length, refl, sym, ap, subst, ◌∙◌, arith, inl, inr, Ok, Err, Result, Some}
use Rattle.std.specs.List.{slice_get}
use Rattle.std.proofs.lemmas.Option.{same_Some}
use Rattle.cob_move_data.specs.declared.operands.StatementMoves.{StatementMoves}
use Rattle.cob_move_data.specs.Moves.{Move, Records, moves_by}
use Rattle.cob_move_apply.specs.Applied.{Applied, Ending, OneEnding, done, stopped}
use Rattle.cob_move_apply.specs.Marked.{AreMarkedPrepared, mark_at, moves_between_marks}
use Rattle.cob_move_apply.specs.Met.{HaveMet}
use Rattle.cob_move_apply.specs.Reads.{ReadsOfMoves}
use Rattle.cob_move_apply.specs.Room.{Scratching}
use Rattle.cob_move_apply.specs.declared.stop.Stop.{Stop}
use Rattle.cob_move_apply.proofs.MarkLemmas.{none_between}
use Rattle.cob_move_apply.proofs.MetLemmas.{none_met}
use Rattle.cob_move_apply.proofs.OneLemmas.{stop_of}
use Rattle.cob_move_apply.proofs.SpentLemmas.{allowed_both}
use Rattle.cob_move_deeds.specs.declared.flow.Bound.{Bound}
use Rattle.cob_move_deeds.specs.declared.flow.Flow.{Flow}
use Rattle.cob_move_deeds.specs.declared.flow.Flow.TheVariants as flow
use Rattle.cob_move_deeds.specs.Carrying.{FlowSpends, FlowSpendsAtStop, LeavesFlows, MeetFlows, MetFlows, StopsFlows, carried_from}
use Rattle.cob_move_deeds.specs.Flows.{FlowSupport}
use Rattle.cob_move_deeds.specs.Known.{Gives, StillGives}
use Rattle.cob_move_deeds.specs.Met.{DeedsHaveMet, ReadsOfDeeds}
use Rattle.cob_move_deeds.specs.Rows.{IsRow, row_begins, row_moves, row_goes_on, row_ends}
use Rattle.cob_move_deeds.specs.Tests.{BoundGives, past_bound, there}
use Rattle.cob_move_deeds.proofs.DeedLemmas.{moves_apart}
use Rattle.cob_move_deeds.proofs.FlowLemmas.{leaves_first, leaves_on, moves_leave, moves_stop, not_past_leaves, past_leaves, stops_on}
use Rattle.cob_move_deeds.proofs.LoopLemmas.{moves_on}
use Rattle.cob_move_deeds.proofs.MetLemmas.{moves_met}
use Rattle.cob_move_deeds.proofs.ReadLemmas.{meet_first, meet_moves, meet_on, meet_past, meet_within, met_moves, none_met_flows}
use Rattle.cob_move_deeds.proofs.TurnLemmas.{past_is, past_not}

-- ---- what is known of the bound

-- a bound with this number gives what is known of it
pub known_gives : (r : Records) (on : FlowSupport) (bound last : ℕ) (input before : List ℕ) (b : Bound) → Gives r on bound last input before → slice_get on.bounds bound ≡ Some b → BoundGives r (past_bound r b 0) input before last
known_gives r on bound last input before b g at =
    subst (λ (k : Bound). BoundGives r (past_bound r k 0) input before last) (same_Some g.given b (sym g.at ∙ at)) g.gives

-- ---- marks

pub row_rises : (bound last first : ℕ) (fs : List Flow) (to : ℕ) (left : List Flow) → IsRow bound last first fs to left → first ≤ to
row_rises bound last first fs to left (row_begins _ _ is same) = omega (arith, is)
row_rises bound last first fs to left (row_moves at _ _ row is) = omega (arith, row_rises bound last first fs at (flow.Moves at ∷ left) row, is)
row_rises bound last first fs to left (row_goes_on _ number skip _ row le) = row_rises bound last first fs to (flow.Until bound number skip ∷ left) row
row_rises bound last first fs to left (row_ends _ number skip more _ row lt same) = row_rises bound last first fs to (flow.Until bound number skip ∷ more) row

-- no moves lie between a mark and itself
none_here : (r : Records) (on : FlowSupport) (first to : ℕ) → to ≡ first → moves_between_marks r on.moves first to ≡ []
none_here r on first to is =
    ap (λ (n : ℕ). moves_between_marks r on.moves first n) is
    ∙ ap (λ (ss : List StatementMoves). moves_by on.moves.moves.reading r ss) (none_between (mark_at on.moves.marks.items first).statement on.moves.moves.statements.items)

-- moves up to a mark, and those behind it
parted : (r : Records) (on : FlowSupport) (first at to : ℕ) → AreMarkedPrepared r on.moves → first ≤ at → to ≡ at + 1 → to < length on.moves.marks.items
    → moves_between_marks r on.moves first to ≡ moves_between_marks r on.moves first at ++ moves_between_marks r on.moves at (at + 1)
parted r on first at to prepared le is within =
    ap (λ (n : ℕ). moves_between_marks r on.moves first n) is ∙ sym (moves_on r on.moves first at (at + 1) prepared le (omega arith) (omega (arith, is, within)))

applied_apart : (r : Records) (on : FlowSupport) (first at to : ℕ) (input before : List ℕ) (end : Ending) → AreMarkedPrepared r on.moves → first ≤ at → to ≡ at + 1 → to < length on.moves.marks.items
    → Applied r (moves_between_marks r on.moves first to) input before end
    → Applied r (moves_between_marks r on.moves first at ++ moves_between_marks r on.moves at (at + 1)) input before end
applied_apart r on first at to input before end prepared le is within x =
    subst (λ (ms : List Move). Applied r ms input before end) (parted r on first at to prepared le is within) x

met_parted : (r : Records) (on : FlowSupport) (first at to : ℕ) (input before : List ℕ) (m : ℕ) → AreMarkedPrepared r on.moves → first ≤ at → to ≡ at + 1 → to < length on.moves.marks.items
    → HaveMet r (moves_between_marks r on.moves first to) input before m
    → HaveMet r (moves_between_marks r on.moves first at ++ moves_between_marks r on.moves at (at + 1)) input before m
met_parted r on first at to input before m prepared le is within x =
    subst (λ (ms : List Move). HaveMet r ms input before m) (parted r on first at to prepared le is within) x

below : (at to n : ℕ) → to ≡ at + 1 → to < n → at < n
below at to n is lt = omega (arith, is, lt)

nearer : (at to end : ℕ) → to ≡ at + 1 → to ≤ end → at ≤ end
nearer at to end is le = omega (arith, is, le)

-- ---- what a row makes

pub row_leaves : (r : Records) (on : FlowSupport) (bound last first end : ℕ) (fs : List Flow) (to : ℕ) (left : List Flow) (input before after : List ℕ) → AreMarkedPrepared r on.moves → StillGives r on bound last first end input before → IsRow bound last first fs to left
    → to ≤ end → to < length on.moves.marks.items → Applied r (moves_between_marks r on.moves first to) input before (done after) → LeavesFlows r on fs left input before after
row_leaves r on bound last first end fs to left input before after prepared g (row_begins _ _ is same) near within x =
    let none : done after ≡ done before = subst (λ (ms : List Move). Applied r ms input before (done after)) (none_here r on first to is) x in
    subst (λ (s : List ℕ). LeavesFlows r on fs left input before s) (sym (ap (λ (e : Ending). e.storage) none))
    (subst (λ (gs : List Flow). LeavesFlows r on fs gs input before before) (sym same) (leaves_first r on fs input before))
row_leaves r on bound last first end fs to left input before after prepared g (row_moves at _ _ row is) near within x =
    let le : first ≤ at = row_rises bound last first fs at (flow.Moves at ∷ left) row in
    elim (moves_apart r (moves_between_marks r on.moves first at) (moves_between_marks r on.moves at (at + 1)) input before (done after) (applied_apart r on first at to input before (done after) prepared le is within x)) [
      | inl (mid, y, z) ↦ leaves_on r on fs (flow.Moves at ∷ left) left input before mid after
          (row_leaves r on bound last first end fs at (flow.Moves at ∷ left) input before mid prepared g row (nearer at to end is near) (below at to (length on.moves.marks.items) is within) y) (moves_leave r on at left input mid after z)
      | inr (stop, mid, y, e) ↦ absurd (stop_of after mid stop e)
    ]
row_leaves r on bound last first end fs to left input before after prepared g (row_goes_on _ number skip _ row le) near within x =
    let now : Gives r on bound last input after = g to after (row_rises bound last first fs to (flow.Until bound number skip ∷ left) row) near within x in
    leaves_on r on fs (flow.Until bound number skip ∷ left) left input before after after
    (row_leaves r on bound last first end fs to (flow.Until bound number skip ∷ left) input before after prepared g row near within x)
    (not_past_leaves r on bound number skip left now.given input after last now.at now.gives (past_not last number le))
row_leaves r on bound last first end fs to left input before after prepared g (row_ends _ number skip more _ row lt same) near within x =
    let now : Gives r on bound last input after = g to after (row_rises bound last first fs to (flow.Until bound number skip ∷ more) row) near within x in
    leaves_on r on fs (flow.Until bound number skip ∷ more) left input before after after
    (row_leaves r on bound last first end fs to (flow.Until bound number skip ∷ more) input before after prepared g row near within x)
    (past_leaves r on bound number skip more left now.given input after last now.at now.gives (past_is last number lt) same)

pub row_stops : (r : Records) (on : FlowSupport) (bound last first end : ℕ) (fs : List Flow) (to : ℕ) (left : List Flow) (input before after : List ℕ) (stop : Stop) → AreMarkedPrepared r on.moves → StillGives r on bound last first end input before → IsRow bound last first fs to left
    → to ≤ end → to < length on.moves.marks.items → Applied r (moves_between_marks r on.moves first to) input before (stopped stop after) → StopsFlows r on fs input before stop after
row_stops r on bound last first end fs to left input before after stop prepared g (row_begins _ _ is same) near within x =
    let none : stopped stop after ≡ done before = subst (λ (ms : List Move). Applied r ms input before (stopped stop after)) (none_here r on first to is) x in
    absurd (stop_of before after stop (sym none))
row_stops r on bound last first end fs to left input before after stop prepared g (row_moves at _ _ row is) near within x =
    let le : first ≤ at = row_rises bound last first fs at (flow.Moves at ∷ left) row in
    let front : at < length on.moves.marks.items = below at to (length on.moves.marks.items) is within in
    elim (moves_apart r (moves_between_marks r on.moves first at) (moves_between_marks r on.moves at (at + 1)) input before (stopped stop after) (applied_apart r on first at to input before (stopped stop after) prepared le is within x)) [
      | inl (mid, y, z) ↦ stops_on r on fs (flow.Moves at ∷ left) input before mid after stop (row_leaves r on bound last first end fs at (flow.Moves at ∷ left) input before mid prepared g row (nearer at to end is near) front y)
          (moves_stop r on at left input mid after stop z)
      | inr (other, mid, y, e) ↦ row_stops r on bound last first end fs at (flow.Moves at ∷ left) input before after stop prepared g row (nearer at to end is near) front
          (subst (λ (k : Ending). Applied r (moves_between_marks r on.moves first at) input before k) (sym e) y)
    ]
row_stops r on bound last first end fs to left input before after stop prepared g (row_goes_on _ number skip _ row le) near within x =
    row_stops r on bound last first end fs to (flow.Until bound number skip ∷ left) input before after stop prepared g row near within x
row_stops r on bound last first end fs to left input before after stop prepared g (row_ends _ number skip more _ row lt same) near within x =
    row_stops r on bound last first end fs to (flow.Until bound number skip ∷ more) input before after stop prepared g row near within x

-- ---- what met in it

none_more : (n : ℕ) → n + 0 ≡ n
none_more n = omega arith

meet_all : (r : Records) (on : FlowSupport) (fs left : List Flow) (input before after : List ℕ) (m n : ℕ) → m ≡ n → MeetFlows r on fs left input before after m → MeetFlows r on fs left input before after n
meet_all r on fs left input before after m n is x = subst (λ (k : ℕ). MeetFlows r on fs left input before after k) is x

pub met_on : (r : Records) (on : FlowSupport) (fs left : List Flow) (input before mid : List ℕ) (own rest n : ℕ) → n ≡ own + rest → MeetFlows r on fs left input before mid own → MetFlows r on left input mid rest
    → MetFlows r on fs input before n
met_on r on fs left input before mid own rest n is so one =
    subst (λ (c : ℕ). MetFlows r on fs input before c) (sym is) (λ j within. let (i, fewer, came) = so j within in came rest (one i fewer))

pub row_meets : OneEnding → (r : Records) (on : FlowSupport) (bound last first end : ℕ) (fs : List Flow) (to : ℕ) (left : List Flow) (input before after : List ℕ) (m : ℕ) → AreMarkedPrepared r on.moves → StillGives r on bound last first end input before → IsRow bound last first fs to left
    → to ≤ end → to < length on.moves.marks.items → Applied r (moves_between_marks r on.moves first to) input before (done after) → HaveMet r (moves_between_marks r on.moves first to) input before m
    → MeetFlows r on fs left input before after m
row_meets law r on bound last first end fs to left input before after m prepared g (row_begins _ _ is same) near within x h =
    let none : done after ≡ done before = subst (λ (ms : List Move). Applied r ms input before (done after)) (none_here r on first to is) x in
    let no : m ≡ 0 = subst (λ (ms : List Move). HaveMet r ms input before m) (none_here r on first to is) h in
    meet_all r on fs left input before after 0 m (sym no)
    (subst (λ (s : List ℕ). MeetFlows r on fs left input before s 0) (sym (ap (λ (e : Ending). e.storage) none))
    (subst (λ (gs : List Flow). MeetFlows r on fs gs input before before 0) (sym same) (meet_first r on fs input before)))
row_meets law r on bound last first end fs to left input before after m prepared g (row_moves at _ _ row is) near within x h =
    let le : first ≤ at = row_rises bound last first fs at (flow.Moves at ∷ left) row in
    let front : at < length on.moves.marks.items = below at to (length on.moves.marks.items) is within in
    let ms : List Move = moves_between_marks r on.moves first at in
    let ns : List Move = moves_between_marks r on.moves at (at + 1) in
    elim (moves_apart r ms ns input before (done after) (applied_apart r on first at to input before (done after) prepared le is within x)) [
      | inl (mid, y, z) ↦ elim (moves_met r ms ns input before m (met_parted r on first at to input before m prepared le is within h)) [
        | inl own ↦ meet_all r on fs left input before after (m + 0) m (none_more m) (meet_on r on fs (flow.Moves at ∷ left) left input before mid after m 0
            (row_meets law r on bound last first end fs at (flow.Moves at ∷ left) input before mid m prepared g row (nearer at to end is near) front y own) (meet_moves r on at left input mid after 0 z (none_met r ns input mid)))
        | inr (other, own, rest, sum, go, u, w) ↦
            let same : other ≡ mid = ap (λ (e : Ending). e.storage) (law r ms input before (done other) (done mid) go y) in
            meet_all r on fs left input before after (own + rest) m (sym sum) (meet_on r on fs (flow.Moves at ∷ left) left input before mid after own rest
            (row_meets law r on bound last first end fs at (flow.Moves at ∷ left) input before mid own prepared g row (nearer at to end is near) front y u)
            (meet_moves r on at left input mid after rest z (subst (λ (s : List ℕ). HaveMet r ns input s rest) same w)))
      ]
      | inr (stop, mid, y, e) ↦ absurd (stop_of after mid stop e)
    ]
row_meets law r on bound last first end fs to left input before after m prepared g (row_goes_on _ number skip _ row le) near within x h =
    let now : Gives r on bound last input after = g to after (row_rises bound last first fs to (flow.Until bound number skip ∷ left) row) near within x in
    meet_all r on fs left input before after (m + 0) m (none_more m) (meet_on r on fs (flow.Until bound number skip ∷ left) left input before after after m 0
    (row_meets law r on bound last first end fs to (flow.Until bound number skip ∷ left) input before after m prepared g row near within x h)
    (meet_within r on bound number skip left now.given input after last now.at now.gives (past_not last number le)))
row_meets law r on bound last first end fs to left input before after m prepared g (row_ends _ number skip more _ row lt same) near within x h =
    let now : Gives r on bound last input after = g to after (row_rises bound last first fs to (flow.Until bound number skip ∷ more) row) near within x in
    meet_all r on fs left input before after (m + 0) m (none_more m) (meet_on r on fs (flow.Until bound number skip ∷ more) left input before after after m 0
    (row_meets law r on bound last first end fs to (flow.Until bound number skip ∷ more) input before after m prepared g row near within x h)
    (meet_past r on bound number skip more left now.given input after last now.at now.gives (past_is last number lt) same))

pub row_met : OneEnding → (r : Records) (on : FlowSupport) (bound last first end : ℕ) (fs : List Flow) (to : ℕ) (left : List Flow) (input before : List ℕ) (m : ℕ) → AreMarkedPrepared r on.moves → StillGives r on bound last first end input before → IsRow bound last first fs to left
    → to ≤ end → to < length on.moves.marks.items → HaveMet r (moves_between_marks r on.moves first to) input before m → MetFlows r on fs input before m
row_met law r on bound last first end fs to left input before m prepared g (row_begins _ _ is same) near within h =
    let no : m ≡ 0 = subst (λ (ms : List Move). HaveMet r ms input before m) (none_here r on first to is) h in
    subst (λ (k : ℕ). MetFlows r on fs input before k) (sym no) (none_met_flows r on fs input before)
row_met law r on bound last first end fs to left input before m prepared g (row_moves at _ _ row is) near within h =
    let le : first ≤ at = row_rises bound last first fs at (flow.Moves at ∷ left) row in
    let front : at < length on.moves.marks.items = below at to (length on.moves.marks.items) is within in
    let ms : List Move = moves_between_marks r on.moves first at in
    let ns : List Move = moves_between_marks r on.moves at (at + 1) in
    elim (moves_met r ms ns input before m (met_parted r on first at to input before m prepared le is within h)) [
      | inl own ↦ row_met law r on bound last first end fs at (flow.Moves at ∷ left) input before m prepared g row (nearer at to end is near) front own
      | inr (mid, own, rest, sum, go, u, w) ↦ met_on r on fs (flow.Moves at ∷ left) input before mid own rest m sum
          (row_meets law r on bound last first end fs at (flow.Moves at ∷ left) input before mid own prepared g row (nearer at to end is near) front go u) (met_moves r on at left input mid rest w)
    ]
row_met law r on bound last first end fs to left input before m prepared g (row_goes_on _ number skip _ row le) near within h =
    row_met law r on bound last first end fs to (flow.Until bound number skip ∷ left) input before m prepared g row near within h
row_met law r on bound last first end fs to left input before m prepared g (row_ends _ number skip more _ row lt same) near within h =
    row_met law r on bound last first end fs to (flow.Until bound number skip ∷ more) input before m prepared g row near within h

-- ---- what is read at it

pub row_spends : OneEnding → (r : Records) (on : FlowSupport) (bound last first end : ℕ) (fs : List Flow) (to : ℕ) (left : List Flow) (input before after : List ℕ) (old new : Scratching) → AreMarkedPrepared r on.moves → StillGives r on bound last first end input before
    → IsRow bound last first fs to left → to ≤ end → to < length on.moves.marks.items → Applied r (moves_between_marks r on.moves first to) input before (done after)
    → ReadsOfMoves {A = Unit {0}} r (moves_between_marks r on.moves first to) input before (Ok tt) old new → FlowSpends r on fs left input before after old new
row_spends law r on bound last first end fs to left input before after old new prepared g row near within x (met, own, spent) =
    (met, row_meets law r on bound last first end fs to left input before after met prepared g row near within x own, spent)

pub row_stop_reads : OneEnding → (r : Records) (on : FlowSupport) (bound last first end : ℕ) (fs : List Flow) (to : ℕ) (left : List Flow) (input before : List ℕ) (stop : Stop) (old new : Scratching) → AreMarkedPrepared r on.moves → StillGives r on bound last first end input before
    → IsRow bound last first fs to left → to ≤ end → to < length on.moves.marks.items → ReadsOfMoves {A = Unit {0}} r (moves_between_marks r on.moves first to) input before (Err stop) old new
    → FlowSpendsAtStop r on fs input before old new
row_stop_reads law r on bound last first end fs to left input before stop old new prepared g row near within (met, own, spent) =
    (met, row_met law r on bound last first end fs to left input before met prepared g row near within own, spent)

-- what was read where some flows are left, and then up to a stop
pub stop_on : (r : Records) (on : FlowSupport) (all left : List Flow) (input before now : List ℕ) (old mid new : Scratching) → FlowSpends r on all left input before now old mid → FlowSpendsAtStop r on left input now mid new
    → FlowSpendsAtStop r on all input before old new
stop_on r on all left input before now old mid new (met, so, first) (own, one, then) =
    (met + own, met_on r on all left input before now met own (met + own) refl so one, omega (arith, first, then, allowed_both r.output met own))

-- ---- moves that are all that there is

pub lone_reads : {A : Type 0} (r : Records) (on : FlowSupport) (number : ℕ) (fs : List Flow) (input before : List ℕ) (result : Result A Stop) (old new : Scratching) → fs ≡ flow.Moves number ∷ []
    → ReadsOfMoves r (moves_between_marks r on.moves number (number + 1)) input before result old new → ReadsOfDeeds r (carried_from r on (length fs) fs) input before result old new
lone_reads r on number fs input before result old new is (met, own, spent) =
    (met, subst (λ (gs : List Flow). DeedsHaveMet r (carried_from r on (length gs) gs) input before met) (sym is) (inl own), spent)
