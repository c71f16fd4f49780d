-- Flows: what is carried out in the place of what is done, one behind another, with skips forward.
use Rattle.std.specs.Prelude.{◌≡◌, ℕ, zero, suc, ◌+◌, ◌-◌, ◌/◌, ◌<◌, ◌≤◌, Bool, true, false, List, [], ◌∷◌, drop, length, map, take, Option, Some, None}
use Rattle.std.specs.List.{AllByRecursion, slice_get}
use Rattle.cob_codec.specs.declared.reading.Reading.{Reading}
use Rattle.cob_move_data.specs.declared.operands.Side.TheVariants.{In}
use Rattle.cob_copybook_entry.specs.declared.kinds.Figurative.TheVariants.{Space}
use Rattle.cob_copybook_entry.specs.Described.{Figure}
use Rattle.cob_move_data.specs.Moves.{Entry, Literal, Move, Records, Sender, operand_in, read_by, record_of, sent_by}
use Rattle.cob_move_condition.specs.declared.condition.Condition as code
use Rattle.cob_move_condition.specs.Conditions.{Always, Both, Compares, Condition, Either, HasClass, Not, condition_of}
use Rattle.cob_move_apply.specs.declared.placed.PlacedEntry.{PlacedEntry}
use Rattle.cob_move_apply.specs.declared.marked.MarkedMoves.{MarkedMoves}
use Rattle.cob_move_apply.specs.Marked.{moves_between_marks}
use Rattle.cob_move_deeds.specs.declared.flow.Asked.{Asked}
use Rattle.cob_move_deeds.specs.declared.flow.Bound.{Bound}
use Rattle.cob_move_deeds.specs.declared.flow.CountedLoop.{CountedLoop}
use Rattle.cob_move_deeds.specs.declared.flow.Flow.{Flow}
use Rattle.cob_move_deeds.specs.declared.flow.Flow.TheVariants as flow
use Rattle.cob_move_deeds.specs.Deeds.{Choice, Deeds, Moving, Nothing, both_deeds}
use Rattle.cob_move_deeds.specs.Tests.{Holds, Test, Until, past_bound}
use Rattle.cob_move_deeds.specs.Turns.{number_after, turns_from}

-- what flows rest on: moves parted by marks, bounds, loops, the entries that conditions ask for, and conditions
pub record FlowSupport : Type 0 where
  pub moves : MarkedMoves
  pub bounds : List Bound
  pub loops : List CountedLoop
  pub entries : List PlacedEntry
  pub conditions : List code.Condition

-- what these are
abbrev pub support_of : MarkedMoves → List Bound → List CountedLoop → Asked → FlowSupport
support_of moves bounds loops asked = record { moves = moves; bounds = bounds; loops = loops; entries = asked.entries.items; conditions = asked.conditions.items }

-- ---- what flows come to

-- the moves of the turn of a loop in which the counter has this number
abbrev pub moves_of_turn : Records → MarkedMoves → CountedLoop → ℕ → List Move
moves_of_turn r m l number = moves_between_marks r m (l.first + (number - l.from) / l.by) (l.first + (number - l.from) / l.by + 1)

-- the turns of a loop that ends by this bound, each behind its test
abbrev pub turns_to : Records → MarkedMoves → CountedLoop → Option Bound → Deeds Test
turns_to r m l None = Nothing
turns_to r m l (Some bound) = turns_from (λ number. Until (past_bound r bound number)) (λ number. Moving (moves_of_turn r m l number) Nothing) l.by l.turns l.from

-- a loop
abbrev pub loop_done : Records → FlowSupport → Option CountedLoop → Deeds Test
loop_done r on None = Nothing
loop_done r on (Some l) = turns_to r on.moves l (slice_get on.bounds l.bound)

-- what is done where a number is not past this bound, and what is done behind either
abbrev pub unless_past : Records → Option Bound → ℕ → (within behind : Deeds Test) → Deeds Test
unless_past r None number within behind = Nothing
unless_past r (Some bound) number within behind = Choice (Until (past_bound r bound number)) Nothing within behind

-- the sender that an entry is, read so; a space where there is none
abbrev pub sender_placed : Records → Reading → Option PlacedEntry → Sender
sender_placed r reading None = Literal (Figure Space)
sender_placed r reading (Some e) = Entry e.side reading (operand_in (record_of r e.side) e.entry)

-- the sender that the entry with this number is: it is read as the senders of the moves are
abbrev pub sender_at : Records → FlowSupport → ℕ → Sender
sender_at r on number = sender_placed r on.moves.moves.reading (slice_get on.entries number)

-- what is done where a condition holds, where it doesn't, and what is done behind either
abbrev pub where_holds : Records → FlowSupport → Option code.Condition → (holding lacking behind : Deeds Test) → Deeds Test
where_holds r on None holding lacking behind = Nothing
where_holds r on (Some c) holding lacking behind = Choice (Holds (condition_of (sender_at r on) c)) holding lacking behind

-- the flows behind the first
abbrev pub behind_first : List Flow → List Flow
behind_first [] = []
behind_first (f ∷ fs) = fs

-- the flows behind so many and a skip
abbrev pub behind_skip : ℕ → List Flow → List Flow
behind_skip count fs = behind_first (drop count fs)

-- the flows that are left behind a condition, whether it holds or not: those in front, or those behind so many and a skip
abbrev pub branch_left : Bool → ℕ → List Flow → List Flow
branch_left true holding more = more
branch_left false holding more = behind_skip holding more

-- What flows come to, of which so many at most are looked at: moves; the turns of a loop, each behind its test; behind the test of a loop what is passed
-- over where it holds; and behind a condition what is done where it holds, a skip, and what is done where it doesn't.
abbrev pub deeds_from : Records → FlowSupport → ℕ → List Flow → Deeds Test
deeds_from r on zero fs = Nothing
deeds_from r on (suc n) [] = Nothing
deeds_from r on (suc n) (flow.Moves number ∷ rest) = Moving (moves_between_marks r on.moves number (number + 1)) (deeds_from r on n rest)
deeds_from r on (suc n) (flow.Turns number ∷ rest) = both_deeds (loop_done r on (slice_get on.loops number)) (deeds_from r on n rest)
deeds_from r on (suc n) (flow.Until bound number skip ∷ rest) =
    unless_past r (slice_get on.bounds bound) number (deeds_from r on n (take skip rest)) (deeds_from r on n (drop skip rest))
deeds_from r on (suc n) (flow.Where condition holding lacking ∷ rest) =
    where_holds r on (slice_get on.conditions condition) (deeds_from r on n (take holding rest)) (deeds_from r on n (take lacking (behind_skip holding rest)))
    (deeds_from r on n (drop lacking (behind_skip holding rest)))
deeds_from r on (suc n) (flow.Skip count ∷ rest) = deeds_from r on n (drop count rest)

-- the same condition, with its binary senders read so
abbrev pub condition_by : Reading → Condition → Condition
condition_by reading Always = Always
condition_by reading (Compares a relation b) = Compares (sent_by reading a) relation (sent_by reading b)
condition_by reading (HasClass a class) = HasClass (sent_by reading a) class
condition_by reading (Not c) = Not (condition_by reading c)
condition_by reading (Both c d) = Both (condition_by reading c) (condition_by reading d)
condition_by reading (Either c d) = Either (condition_by reading c) (condition_by reading d)

-- the same test: a bound of a loop is a whole number, which is read as its picture says
abbrev pub test_by : Reading → Test → Test
test_by reading (Until t) = Until t
test_by reading (Holds c) = Holds (condition_by reading c)

-- the same deeds, with their binary senders read so
abbrev pub deeds_by : Reading → Deeds Test → Deeds Test
deeds_by reading Nothing = Nothing
deeds_by reading (Moving ms more) = Moving (map (read_by reading) ms) (deeds_by reading more)
deeds_by reading (Choice t holding lacking more) = Choice (test_by reading t) (deeds_by reading holding) (deeds_by reading lacking) (deeds_by reading more)

-- ---- which flows may be carried out

-- The bound of a loop stands in the input record, and the turns up to the greatest number that it may hold lie between marks.
pub record IsLoop (on : FlowSupport) (l : CountedLoop) : Type 0 where
  pub bound : Bound
  pub at : slice_get on.bounds l.bound ≡ Some bound
  pub of_input : bound.item.side ≡ In
  pub grows : 0 < l.by
  pub far : bound.most < number_after l.by l.turns l.from
  pub marks : l.first + l.turns < length on.moves.marks.items

-- what a flow names by a number is there
abbrev pub IsFlow : FlowSupport → Flow → Type 0
IsFlow on (flow.Moves number) = number + 1 < length on.moves.marks.items
IsFlow on (flow.Turns number) = (l : CountedLoop) × (slice_get on.loops number ≡ Some l) × IsLoop on l
IsFlow on (flow.Until bound number skip) = (b : Bound) × (slice_get on.bounds bound ≡ Some b)
IsFlow on (flow.Where condition holding lacking) = (c : code.Condition) × (slice_get on.conditions condition ≡ Some c)
IsFlow on (flow.Skip count) = Unit {0}

-- What a test passes over ends within what it stands in, of which so many at most are looked at. A skip stands behind what is done where a condition holds,
-- and nowhere else: it passes over what is done where it doesn't.
abbrev pub AreNestedFlows : ℕ → List Flow → Type 0
AreNestedFlows zero fs = fs ≡ []
AreNestedFlows (suc n) [] = Unit {0}
AreNestedFlows (suc n) (flow.Moves number ∷ rest) = AreNestedFlows n rest
AreNestedFlows (suc n) (flow.Turns number ∷ rest) = AreNestedFlows n rest
AreNestedFlows (suc n) (flow.Until bound number skip ∷ rest) = (skip ≤ length rest) × AreNestedFlows n (take skip rest) × AreNestedFlows n (drop skip rest)
AreNestedFlows (suc n) (flow.Where condition holding lacking ∷ rest) =
    (drop holding rest ≡ flow.Skip lacking ∷ behind_skip holding rest) × (lacking ≤ length (behind_skip holding rest)) × AreNestedFlows n (take holding rest)
    × AreNestedFlows n (take lacking (behind_skip holding rest)) × AreNestedFlows n (drop lacking (behind_skip holding rest))
AreNestedFlows (suc n) (flow.Skip count ∷ rest) = ⊥

-- flows that may be carried out
pub record AreFlows (on : FlowSupport) (fs : List Flow) : Type 0 where
  pub each : AllByRecursion (IsFlow on) fs
  pub nested : AreNestedFlows (length fs) fs
