-- A mark behind the statements that were made last.
use Rattle.std.proofs.Common.{◌≡◌, inl, inr, ℕ, zero, suc, ◌+◌, ◌-◌, ◌<◌, ◌≤◌, Bool, true, false, List, [], ◌∷◌, ◌++◌, drop, get_or, length, map, nat_eq, take, refl, sym, ap, subst, ◌∙◌, append_assoc, append-nil, arith, Option, Some, None}
use Rattle.std.specs.List.{AllByRecursion, slice_get}
use Rattle.std.proofs.lemmas.List.{drop-append-le, length-append, take-append-le}
use Rattle.std.proofs.Math.Seq.{drop-length, take-length}
use Rattle.cob_codec.specs.declared.reading.Reading.{Reading}
use Rattle.cob_codec.specs.declared.reading.Reading.TheVariants.{Pictured}
use Rattle.cob_move_apply.specs.declared.marking.Mark.{Mark}
use Rattle.cob_move_apply.specs.declared.marked.MarkedMoves.{MarkedMoves}
use Rattle.cob_move_apply.specs.Marked.{RiseUpTo, ends_of_marks, items_between, mark_at, moves_between_marks, statement_of}
use Rattle.cob_move_data.specs.declared.operands.StatementMoves.{StatementMoves}
use Rattle.cob_move_data.specs.Moves.{Move, Records, moves, moves_by}
use Rattle.cob_move_deeds.specs.declared.flow.Flow.{Flow}
use Rattle.cob_move_deeds.specs.declared.flow.Flow.TheVariants as flow
use Rattle.cob_move_deeds.specs.Deeds.{Deeds, Moving, Nothing, both_deeds}
use Rattle.cob_move_deeds.specs.Flows.{AreFlows, FlowSupport, IsFlow}
use Rattle.cob_move_deeds.specs.Tests.{Test}
use Rattle.cob_move.specs.DeedsRead.{HasGrown, IsFrontOf, IsMade, MadeLists, all_deeds, closed, closed_where, last_marked, made_deeds, marked_behind, open_deeds, open_statements, without_flows}
use Rattle.cob_move.proofs.DeedsLemmas.{either_side}
use Rattle.cob_move.proofs.FlowLemmas.{both_flows, both_nothing}
use Rattle.cob_move_deeds.proofs.AppendLemmas.{are_flows_behind}
use Rattle.cob_move.proofs.MadeLemmas.{front_back, grown_none}

-- ---- marks

pub last_of : (before end : ℕ) (ends : List ℕ) → last_marked before (ends ++ end ∷ []) ≡ end
last_of before end [] = refl
last_of before end (e ∷ ends) = last_of e end ends

-- the number in front of others, where it is the last of those before it
last_at : (before : ℕ) (ends more : List ℕ) (d : ℕ) → get_or (before ∷ (ends ++ more)) (length ends) d ≡ last_marked before ends
last_at before [] more d = refl
last_at before (e ∷ ends) more d = last_at e ends more d

next_at : (before : ℕ) (ends : List ℕ) (end : ℕ) (more : List ℕ) (d : ℕ) → get_or (before ∷ (ends ++ end ∷ more)) (suc (length ends)) d ≡ end
next_at before [] end more d = refl
next_at before (e ∷ ends) end more d = next_at e ends end more d

statement_at : (marks : List Mark) (number : ℕ) → (mark_at marks number).statement ≡ get_or (map statement_of marks) number 0
statement_at [] number = refl
statement_at (m ∷ marks) zero = refl
statement_at (m ∷ marks) (suc n) = statement_at marks n

pub rise_more : (begin whole end : ℕ) (ends : List ℕ) → whole ≤ end → RiseUpTo begin whole ends → RiseUpTo begin end (ends ++ end ∷ [])
rise_more begin whole end [] le is = (omega (arith, le, is), omega arith, refl)
rise_more begin whole end (e ∷ ends) le is = (is.0, omega (arith, is.1, le), rise_more e whole end ends le is.2)

-- ---- the moves behind the last mark

drop_more : (n : ℕ) (xs : List StatementMoves) → n ≤ length xs → length (drop n xs) ≡ length xs - n
drop_more zero xs le = omega arith
drop_more (suc n) [] le = omega arith
drop_more (suc n) (x ∷ xs) le = omega (arith, drop_more n xs (omega (arith, le)))

between_is : (from : ℕ) (xs more : List StatementMoves) → from ≤ length xs → items_between from (length xs) (xs ++ more) ≡ drop from xs
between_is from xs more le =
    let size = drop_more from xs le in
    ap (λ (t : List StatementMoves). take (length xs - from) t) (drop-append-le from xs more le)
    ∙ take-append-le (length xs - from) (drop from xs) more (omega (arith, size))
    ∙ ap (λ (n : ℕ). take n (drop from xs)) (sym size) ∙ take-length (drop from xs)

marked_moves : (r : Records) (m : MadeLists) (on : FlowSupport) → last_marked 0 m.ends ≤ length m.list → IsFrontOf (marked_behind m) on
    → moves_between_marks r on.moves (length m.ends) (length m.ends + 1) ≡ moves r (open_statements m)
marked_moves r m on le f =
    let marks = on.moves.marks.items in
    let ends : map statement_of marks ≡ 0 ∷ (m.ends ++ length m.list ∷ f.marks.0) = f.marks.1 ∙ ap (λ (t : List ℕ). 0 ∷ t) (append_assoc m.ends (length m.list ∷ []) f.marks.0) in
    let first : (mark_at marks (length m.ends)).statement ≡ last_marked 0 m.ends =
    statement_at marks (length m.ends) ∙ ap (λ (t : List ℕ). get_or t (length m.ends) 0) ends ∙ last_at 0 m.ends (length m.list ∷ f.marks.0) 0 in
    let after : length m.ends + 1 ≡ suc (length m.ends) = omega arith in
    let second : (mark_at marks (length m.ends + 1)).statement ≡ length m.list =
    ap (λ (n : ℕ). (mark_at marks n).statement) after ∙ statement_at marks (suc (length m.ends))
    ∙ ap (λ (t : List ℕ). get_or t (suc (length m.ends)) 0) ends ∙ next_at 0 m.ends (length m.list) f.marks.0 0 in
    let given = on.moves.moves.statements.items in
    ap (λ (x : Reading). moves_by x r (items_between (mark_at marks (length m.ends)).statement (mark_at marks (length m.ends + 1)).statement given)) f.reading
    ∙ ap (λ (n : ℕ). moves r (items_between n (mark_at marks (length m.ends + 1)).statement given)) first
    ∙ ap (λ (n : ℕ). moves r (items_between (last_marked 0 m.ends) n given)) second
    ∙ ap (λ (t : List StatementMoves). moves r (items_between (last_marked 0 m.ends) (length m.list) t)) f.statements.1
    ∙ ap (λ (t : List StatementMoves). moves r t) (between_is (last_marked 0 m.ends) m.list f.statements.0 le)

some_open : (r : Records) (ss : List StatementMoves) → 0 < length ss → open_deeds r ss ≡ Moving (moves r ss) Nothing
some_open r [] some = absurd (omega (arith, some))
some_open r (s ∷ ss) some = refl

-- ---- what is closed

pub marked_grown : (m : MadeLists) → HasGrown m (marked_behind m)
marked_grown m = record {
  list = ([], sym (append-nil m.list));
  ends = (length m.list ∷ [], refl);
  bounds = ([], sym (append-nil m.bounds));
  asked = ([], sym (append-nil m.asked));
  conditions = ([], sym (append-nil m.conditions));
  flows = (flow.Moves (length m.ends) ∷ [], refl);
}

grown_where : (b : Bool) (m : MadeLists) → HasGrown m (closed_where b m)
grown_where true m = grown_none m
grown_where false m = marked_grown m

pub closed_grown : (m : MadeLists) → HasGrown m (closed m)
closed_grown m = grown_where (nat_eq (length m.list) (last_marked 0 m.ends)) m

pub equal_is : (a b : ℕ) → nat_eq a b ≡ true → a ≡ b
equal_is a b e = grind (arith, e)

pub equal_not : (a b : ℕ) → nat_eq a b ≡ false → a ≡ b → ⊥
equal_not a b e same = grind (arith, e, same)

open_where : (b : Bool) (m : MadeLists) → b ≡ nat_eq (length m.list) (last_marked 0 m.ends) → open_statements (closed_where b m) ≡ []
open_where true m e = ap (λ (n : ℕ). drop n m.list) (sym (equal_is (length m.list) (last_marked 0 m.ends) (sym e))) ∙ drop-length m.list
open_where false m e = ap (λ (n : ℕ). drop n m.list) (last_of 0 (length m.list) m.ends) ∙ drop-length m.list

pub closed_open : (m : MadeLists) → open_statements (closed m) ≡ []
closed_open m = open_where (nat_eq (length m.list) (last_marked 0 m.ends)) m refl

one_flow : (m : MadeLists) (on : FlowSupport) → IsFrontOf (marked_behind m) on → AreFlows on (flow.Moves (length m.ends) ∷ [])
one_flow m on f =
    let size : length (map statement_of on.moves.marks.items) ≡ length (0 ∷ ((m.ends ++ length m.list ∷ []) ++ f.marks.0)) = ap length f.marks.1 in
    record { each = (omega (arith, size, sizes on.moves.marks.items, length-append (m.ends ++ length m.list ∷ []) f.marks.0, length-append m.ends (length m.list ∷ [])), tt); nested = refl }
  where
    sizes : (marks : List Mark) → length (map statement_of marks) ≡ length marks
    sizes [] = refl
    sizes (m ∷ marks) = omega (arith, sizes marks)

deeds_where : (b : Bool) (r : Records) (m : MadeLists) → b ≡ nat_eq (length m.list) (last_marked 0 m.ends) → IsMade r m → (on : FlowSupport) → IsFrontOf (closed_where b m) on
    → all_deeds r on (closed_where b m).flows ≡ made_deeds r on m
deeds_where true r m e is on f =
    let none : open_statements m ≡ [] = open_where true m e in
    sym (both_nothing (all_deeds r on m.flows)) ∙ ap (λ (t : List StatementMoves). both_deeds (all_deeds r on m.flows) (open_deeds r t)) (sym none)
deeds_where false r m e is on f =
    let some : 0 < length (open_statements m) =
    omega (arith, drop_more (last_marked 0 m.ends) m.list is.behind, is.behind, less (length m.list) (last_marked 0 m.ends) (equal_not (length m.list) (last_marked 0 m.ends) (sym e)) is.behind) in
    both_flows r on m.flows (flow.Moves (length m.ends) ∷ []) (is.flows on (front_back m (marked_behind m) on (marked_grown m) f)) (one_flow m on f)
    ∙ ap (λ (ms : List Move). both_deeds (all_deeds r on m.flows) (Moving ms Nothing)) (marked_moves r m on is.behind f)
    ∙ ap (λ (d : Deeds Test). both_deeds (all_deeds r on m.flows) d) (sym (some_open r (open_statements m) some))
  where
    less : (a b : ℕ) → (a ≡ b → ⊥) → b ≤ a → b < a
    less a b not le = elim (either_side b a) [
      | inl below ↦ below
      | inr above ↦ absurd (not (omega (arith, above, le)))
    ]

pub closed_deeds : (r : Records) (m : MadeLists) → IsMade r m → (on : FlowSupport) → IsFrontOf (closed m) on → all_deeds r on (closed m).flows ≡ made_deeds r on m
closed_deeds r m is on f = deeds_where (nat_eq (length m.list) (last_marked 0 m.ends)) r m refl is on f

flows_where : (b : Bool) (r : Records) (m : MadeLists) → IsMade r m → (on : FlowSupport) → IsFrontOf (closed_where b m) on → AreFlows on (closed_where b m).flows
flows_where true r m is on f = is.flows on f
flows_where false r m is on f = are_flows_behind on m.flows (flow.Moves (length m.ends) ∷ []) (is.flows on (front_back m (marked_behind m) on (marked_grown m) f)) (one_flow m on f)

pub closed_flows : (r : Records) (m : MadeLists) → IsMade r m → (on : FlowSupport) → IsFrontOf (closed m) on → AreFlows on (closed m).flows
closed_flows r m is on f = flows_where (nat_eq (length m.list) (last_marked 0 m.ends)) r m is on f

none_made : (b : Bool) (r : Records) (m : MadeLists) → IsMade r m → IsMade r (without_flows (closed_where b m))
none_made true r m is = record {
  moves = is.moves;
  ends = is.ends;
  behind = is.behind;
  bounds = is.bounds;
  asked = is.asked;
  conditions = is.conditions;
  flows = λ on f. record { each = tt; nested = refl };
  parted = λ on f. tt;
  few = is.few;
}
none_made false r m is = record {
  moves = is.moves;
  ends = subst (λ (n : ℕ). RiseUpTo 0 n (m.ends ++ length m.list ∷ [])) (sym (last_of 0 (length m.list) m.ends)) (rise_more 0 (last_marked 0 m.ends) (length m.list) m.ends is.behind is.ends);
  behind = omega (arith, last_of 0 (length m.list) m.ends);
  bounds = is.bounds;
  asked = is.asked;
  conditions = is.conditions;
  flows = λ on f. record { each = tt; nested = refl };
  parted = λ on f. tt;
  few = is.few;
}

pub closed_made : (r : Records) (m : MadeLists) → IsMade r m → IsMade r (without_flows (closed m))
closed_made r m is = none_made (nat_eq (length m.list) (last_marked 0 m.ends)) r m is

-- a mark reads no statement
pub closed_read : (m : MadeLists) → (closed m).read ≡ m.read
closed_read m = read_where (nat_eq (length m.list) (last_marked 0 m.ends)) m
  where
    read_where : (b : Bool) (m : MadeLists) → (closed_where b m).read ≡ m.read
    read_where true m = refl
    read_where false m = refl

-- ---- the last mark

abbrev number_or : Option ℕ → ℕ
number_or (Some n) = n
number_or None = 0

-- the last of some numbers is what stands at the last place
pub last_found : (before : ℕ) (ends : List ℕ) (end : ℕ) → Some end ≡ slice_get ends (length ends - 1) → end ≡ last_marked before ends
last_found before [] end e = absurd (let never : Some end ≡ None = e in cc)
last_found before (x ∷ []) end e =
    let at : length (x ∷ []) - 1 ≡ zero = omega arith in
    ap number_or (e ∙ ap (λ (n : ℕ). slice_get (x ∷ []) n) at)
last_found before (x ∷ y ∷ ys) end e =
    let at : length (x ∷ y ∷ ys) - 1 ≡ suc (length (y ∷ ys) - 1) = omega arith in
    last_found x (y ∷ ys) end (e ∙ ap (λ (n : ℕ). slice_get (x ∷ y ∷ ys) n) at)
