-- Deeds whose binary senders are read otherwise.
use Rattle.std.proofs.Common.{◌≡◌, ℕ, zero, suc, ◌+◌, List, [], ◌∷◌, ◌++◌, arith, drop, length, map, take, refl, sym, ap, ◌∙◌, Option, Some, None}
use Rattle.std.specs.List.{AllByRecursion, slice_get}
use Rattle.std.proofs.lemmas.List.{length-map, map-append}
use Rattle.cob_codec.specs.declared.reading.Reading.{Reading}
use Rattle.cob_move_data.specs.Moves.{Entry, Move, Records, Sender, operand_in, read_by, record_of, sent_by}
use Rattle.cob_move_condition.specs.declared.condition.Comparand.{Comparand}
use Rattle.cob_move_condition.specs.declared.condition.Comparand.TheVariants as comparand
use Rattle.cob_move_condition.specs.declared.condition.Condition as code
use Rattle.cob_move_condition.specs.declared.condition.Condition.TheVariants as code_condition
use Rattle.cob_move_condition.specs.Conditions.{Both, Compares, Condition, Either, HasClass, Not, condition_of, sender_compared}
use Rattle.cob_move_apply.specs.declared.placed.PlacedEntry.{PlacedEntry}
use Rattle.cob_move_apply.specs.Marked.{ends_of_marks, moves_between_marks, statement_of}
use Rattle.cob_move_apply.specs.declared.marked.MarkedMoves.{MarkedMoves}
use Rattle.cob_move_deeds.specs.declared.flow.Bound.{Bound}
use Rattle.cob_move_deeds.specs.declared.flow.CountedLoop.{CountedLoop}
use Rattle.cob_move_deeds.specs.declared.flow.Flow.{Flow}
use Rattle.cob_move_deeds.specs.declared.flow.Flow.TheVariants as flow
use Rattle.cob_move_deeds.specs.Deeds.{Choice, Deeds, Moving, Nothing, both_deeds, moves_of_deeds}
use Rattle.cob_move_deeds.specs.Flows.{FlowSupport, IsFlow, IsLoop, behind_skip, condition_by, deeds_by, deeds_from, loop_done, moves_of_turn, sender_at, sender_placed, test_by, turns_to, unless_past, where_holds}
use Rattle.cob_move_deeds.specs.Tests.{Holds, Past, Test, Until, past_bound}
use Rattle.cob_move_deeds.specs.Turns.{turns_from}

-- the same, over other moves
abbrev pub over_moves : MarkedMoves → FlowSupport → FlowSupport
over_moves new on = record { moves = new; bounds = on.bounds; loops = on.loops; entries = on.entries; conditions = on.conditions }

-- the moves between marks are the same, but for the reading
abbrev pub ReadsAs : Reading → Records → (old new : MarkedMoves) → Type 0
ReadsAs x r old new = (from to : ℕ) → moves_between_marks r new from to ≡ map (read_by x) (moves_between_marks r old from to)

both_read : (x : Reading) (d e : Deeds Test) → deeds_by x (both_deeds d e) ≡ both_deeds (deeds_by x d) (deeds_by x e)
both_read x Nothing e = refl
both_read x (Moving ms more) e = ap (λ (k : Deeds Test). Moving (map (read_by x) ms) k) (both_read x more e)
both_read x (Choice t holding lacking more) e = ap (λ (k : Deeds Test). Choice (test_by x t) (deeds_by x holding) (deeds_by x lacking) k) (both_read x more e)

turns_read : (x : Reading) (until : ℕ → Past) (old new : ℕ → List Move) (by n i : ℕ) → ((k : ℕ) → new k ≡ map (read_by x) (old k))
    → turns_from (λ k. Until (until k)) (λ k. Moving (new k) Nothing) by n i ≡ deeds_by x (turns_from (λ k. Until (until k)) (λ k. Moving (old k) Nothing) by n i)
turns_read x until old new by zero i same = refl
turns_read x until old new by (suc n) i same =
    let rest = turns_read x until old new by n (i + by) same in
    ap (λ (ms : List Move). Choice (Until (until i)) Nothing (Moving ms (turns_from (λ k. Until (until k)) (λ k. Moving (new k) Nothing) by n (i + by))) Nothing) (same i)
    ∙ ap (λ (d : Deeds Test). Choice (Until (until i)) Nothing (Moving (map (read_by x) (old i)) d) Nothing) rest

loop_read : (x : Reading) (r : Records) (old new : MarkedMoves) (l : CountedLoop) (o : Option Bound) → ReadsAs x r old new → turns_to r new l o ≡ deeds_by x (turns_to r old l o)
loop_read x r old new l None same = refl
loop_read x r old new l (Some b) same = turns_read x (past_bound r b) (moves_of_turn r old l) (moves_of_turn r new l) l.by l.turns l.from (λ k. same _ _)

loops_read : (x : Reading) (r : Records) (on : FlowSupport) (new : MarkedMoves) (o : Option CountedLoop) → ReadsAs x r on.moves new
    → loop_done r (over_moves new on) o ≡ deeds_by x (loop_done r on o)
loops_read x r on new None same = refl
loops_read x r on new (Some l) same = loop_read x r on.moves new l (slice_get on.bounds l.bound) same

test_read : (x : Reading) (r : Records) (o : Option Bound) (number : ℕ) (d e f g : Deeds Test) → f ≡ deeds_by x d → g ≡ deeds_by x e → unless_past r o number f g ≡ deeds_by x (unless_past r o number d e)
test_read x r None number d e f g p q = refl
test_read x r (Some b) number d e f g p q =
    ap (λ (k : Deeds Test). Choice (Until (past_bound r b number)) Nothing k g) p ∙ ap (λ (k : Deeds Test). Choice (Until (past_bound r b number)) Nothing (deeds_by x d) k) q

-- ---- conditions

sender_read : (x : Reading) (r : Records) (old new : Reading) (o : Option PlacedEntry) → new ≡ x → sender_placed r new o ≡ sent_by x (sender_placed r old o)
sender_read x r old new None same = refl
sender_read x r old new (Some e) same = ap (λ (k : Reading). Entry e.side k (operand_in (record_of r e.side) e.entry)) same

compared_read : (x : Reading) (old new : ℕ → Sender) → ((n : ℕ) → new n ≡ sent_by x (old n)) → (c : Comparand) → sender_compared new c ≡ sent_by x (sender_compared old c)
compared_read x old new same (comparand.Entry n) = same n
compared_read x old new same (comparand.Constant value) = refl

condition_read : (x : Reading) (old new : ℕ → Sender) → ((n : ℕ) → new n ≡ sent_by x (old n)) → (c : code.Condition) → condition_of new c ≡ condition_by x (condition_of old c)
condition_read x old new same code_condition.Always = refl
condition_read x old new same (code_condition.Compares a relation b) =
    ap (λ (s : Sender). Compares s relation (sender_compared new b)) (compared_read x old new same a)
    ∙ ap (λ (s : Sender). Compares (sent_by x (sender_compared old a)) relation s) (compared_read x old new same b)
condition_read x old new same (code_condition.HasClass n class) = ap (λ (s : Sender). HasClass s class) (same n)
condition_read x old new same (code_condition.Not' q c) = ap (λ (d : Condition). Not d) (condition_read x old new same c)
condition_read x old new same (code_condition.Both' p c q d) =
    ap (λ (k : Condition). Both k (condition_of new d)) (condition_read x old new same c) ∙ ap (λ (k : Condition). Both (condition_by x (condition_of old c)) k) (condition_read x old new same d)
condition_read x old new same (code_condition.Either' p c q d) =
    ap (λ (k : Condition). Either k (condition_of new d)) (condition_read x old new same c) ∙ ap (λ (k : Condition). Either (condition_by x (condition_of old c)) k) (condition_read x old new same d)

where_read : (x : Reading) (r : Records) (on : FlowSupport) (new : MarkedMoves) (o : Option code.Condition) (d e f g h k : Deeds Test) → new.moves.reading ≡ x → g ≡ deeds_by x d → h ≡ deeds_by x e → k ≡ deeds_by x f
    → where_holds r (over_moves new on) o g h k ≡ deeds_by x (where_holds r on o d e f)
where_read x r on new None d e f g h k reads p q s = refl
where_read x r on new (Some c) d e f g h k reads p q s =
    let now : Condition = condition_by x (condition_of (sender_at r on) c) in
    ap (λ (t : Condition). Choice (Holds t) g h k)
    (condition_read x (sender_at r on) (sender_at r (over_moves new on)) (λ n. sender_read x r on.moves.moves.reading new.moves.reading (slice_get on.entries n) reads) c)
    ∙ ap (λ (y : Deeds Test). Choice (Holds now) y h k) p
    ∙ ap (λ (y : Deeds Test). Choice (Holds now) (deeds_by x d) y k) q
    ∙ ap (λ (y : Deeds Test). Choice (Holds now) (deeds_by x d) (deeds_by x e) y) s

pub flows_read : (x : Reading) (r : Records) (on : FlowSupport) (new : MarkedMoves) → new.moves.reading ≡ x → ReadsAs x r on.moves new → (n : ℕ) (fs : List Flow)
    → deeds_from r (over_moves new on) n fs ≡ deeds_by x (deeds_from r on n fs)
flows_read x r on new reads same zero fs = refl
flows_read x r on new reads same (suc n) [] = refl
flows_read x r on new reads same (suc n) (flow.Moves number ∷ rest) =
    let now : FlowSupport = over_moves new on in
    ap (λ (ms : List Move). Moving ms (deeds_from r now n rest)) (same number (number + 1))
    ∙ ap (λ (d : Deeds Test). Moving (map (read_by x) (moves_between_marks r on.moves number (number + 1))) d) (flows_read x r on new reads same n rest)
flows_read x r on new reads same (suc n) (flow.Turns number ∷ rest) =
    let now : FlowSupport = over_moves new on in
    ap (λ (d : Deeds Test). both_deeds d (deeds_from r now n rest)) (loops_read x r on new (slice_get on.loops number) same)
    ∙ ap (λ (d : Deeds Test). both_deeds (deeds_by x (loop_done r on (slice_get on.loops number))) d) (flows_read x r on new reads same n rest)
    ∙ sym (both_read x (loop_done r on (slice_get on.loops number)) (deeds_from r on n rest))
flows_read x r on new reads same (suc n) (flow.Until bound number skip ∷ rest) =
    test_read x r (slice_get on.bounds bound) number (deeds_from r on n (take skip rest)) (deeds_from r on n (drop skip rest))
    (deeds_from r (over_moves new on) n (take skip rest)) (deeds_from r (over_moves new on) n (drop skip rest))
    (flows_read x r on new reads same n (take skip rest)) (flows_read x r on new reads same n (drop skip rest))
flows_read x r on new reads same (suc n) (flow.Where condition holding lacking ∷ rest) =
    let now : FlowSupport = over_moves new on in
    let left : List Flow = behind_skip holding rest in
    where_read x r on new (slice_get on.conditions condition) (deeds_from r on n (take holding rest)) (deeds_from r on n (take lacking left)) (deeds_from r on n (drop lacking left))
    (deeds_from r now n (take holding rest)) (deeds_from r now n (take lacking left)) (deeds_from r now n (drop lacking left)) reads
    (flows_read x r on new reads same n (take holding rest)) (flows_read x r on new reads same n (take lacking left)) (flows_read x r on new reads same n (drop lacking left))
flows_read x r on new reads same (suc n) (flow.Skip count ∷ rest) = flows_read x r on new reads same n (drop count rest)

-- the moves of deeds whose binary senders are read so
pub moves_read : (x : Reading) (d : Deeds Test) → moves_of_deeds (deeds_by x d) ≡ map (read_by x) (moves_of_deeds d)
moves_read x Nothing = refl
moves_read x (Moving ms more) =
    ap (λ (ns : List Move). map (read_by x) ms ++ ns) (moves_read x more) ∙ sym (map-append (read_by x) ms (moves_of_deeds more))
moves_read x (Choice t holding lacking more) =
    ap (λ (ns : List Move). ns ++ (moves_of_deeds (deeds_by x lacking) ++ moves_of_deeds (deeds_by x more))) (moves_read x holding)
    ∙ ap (λ (ns : List Move). map (read_by x) (moves_of_deeds holding) ++ ns)
    (ap (λ (ns : List Move). ns ++ moves_of_deeds (deeds_by x more)) (moves_read x lacking)
    ∙ ap (λ (ns : List Move). map (read_by x) (moves_of_deeds lacking) ++ ns) (moves_read x more)
    ∙ sym (map-append (read_by x) (moves_of_deeds lacking) (moves_of_deeds more)))
    ∙ sym (map-append (read_by x) (moves_of_deeds holding) (moves_of_deeds lacking ++ moves_of_deeds more))

-- ---- flows that may be carried out, over moves with as many marks

pub same_marks : (old new : MarkedMoves) → ends_of_marks new ≡ ends_of_marks old → length new.marks.items ≡ length old.marks.items
same_marks old new same = sym (length-map new.marks.items statement_of) ∙ ap length same ∙ length-map old.marks.items statement_of

loop_still : (on : FlowSupport) (new : MarkedMoves) (l : CountedLoop) → length new.marks.items ≡ length on.moves.marks.items → IsLoop on l
    → IsLoop (over_moves new on) l
loop_still on new l same is = record { bound = is.bound; at = is.at; of_input = is.of_input; grows = is.grows; far = is.far; marks = omega (arith, same, is.marks) }

flow_still : (on : FlowSupport) (new : MarkedMoves) → length new.marks.items ≡ length on.moves.marks.items → (f : Flow) → IsFlow on f
    → IsFlow (over_moves new on) f
flow_still on new same (flow.Moves number) is = omega (arith, same, is)
flow_still on new same (flow.Turns number) (l, at, is) = (l, at, loop_still on new l same is)
flow_still on new same (flow.Until bound number skip) is = is
flow_still on new same (flow.Where condition holding lacking) is = is
flow_still on new same (flow.Skip count) is = is

pub flows_still : (on : FlowSupport) (new : MarkedMoves) → ends_of_marks new ≡ ends_of_marks on.moves → (fs : List Flow) → AllByRecursion (IsFlow on) fs
    → AllByRecursion (IsFlow (over_moves new on)) fs
flows_still on new same [] each = each
flows_still on new same (f ∷ fs) each = (flow_still on new (same_marks on.moves new same) f each.0, flows_still on new same fs each.1)
