-- Flows carried out one behind another.
use Rattle.std.specs.Prelude.{◌≡◌, ℕ, zero, suc, ◌+◌, ◌≤◌, List, [], ◌∷◌, drop, length, Option, Some, None}
use Rattle.std.specs.List.{AllByRecursion, slice_get}
use Rattle.cob_layout.specs.Kept.{AreKeptOf}
use Rattle.cob_layout_places.specs.Counts.{tables_of}
use Rattle.cob_move_data.specs.Moves.{Records}
use Rattle.cob_move_apply.specs.Applied.{Ending, stopped}
use Rattle.cob_move_apply.specs.Marked.{moves_between_marks}
use Rattle.cob_move_apply.specs.Reads.{kept_among}
use Rattle.cob_move_apply.specs.Room.{Scratching, room_of}
use Rattle.cob_move_apply.specs.Spent.{allowed}
use Rattle.cob_move_apply.specs.declared.stop.Stop.{Stop}
use Rattle.cob_move_deeds.specs.declared.flow.Bound.{Bound}
use Rattle.cob_move_deeds.specs.declared.flow.Flow.{Flow}
use Rattle.cob_move_deeds.specs.declared.flow.Flow.TheVariants as flow
use Rattle.cob_move_deeds.specs.declared.sides.Sides.{Sides}
use Rattle.cob_move_deeds.specs.Deeds.{Carried, Choice, Deeds, Moving, Nothing, both_deeds}
use Rattle.cob_move_condition.specs.declared.condition.Condition as code
use Rattle.cob_move_condition.specs.Conditions.{condition_of}
use Rattle.cob_move_deeds.specs.Flows.{FlowSupport, IsFlow, behind_skip, loop_done, sender_at}
use Rattle.cob_move_deeds.specs.Met.{DeedsHaveMet}
use Rattle.cob_move_deeds.specs.Tests.{Holds, Judged, Test, Until, past_bound}

-- the two records
abbrev pub records_of_sides : Sides → Records
records_of_sides s = record { input = s.input_layout.now; output = s.output_layout.now }

-- there is room for moves between two records, and what is kept of the counts of either is that of these storages
pub record HasKept (r : Records) (input output : List ℕ) (s : Scratching) : Type 0 where
  pub room : s.room ≡ room_of r
  pub of_input : AreKeptOf r.input input s.kept_input
  pub of_output : AreKeptOf r.output output s.kept_output

-- a test, and what is done where it holds and where it doesn't
abbrev pub either_way : Records → Option Bound → ℕ → (past within : Deeds Test) → Deeds Test
either_way r None number past within = Nothing
either_way r (Some bound) number past within = Choice (Until (past_bound r bound number)) past within Nothing

-- a condition, likewise
abbrev pub either_holds : Records → FlowSupport → Option code.Condition → (holding lacking : Deeds Test) → Deeds Test
either_holds r on None holding lacking = Nothing
either_holds r on (Some c) holding lacking = Choice (Holds (condition_of (sender_at r on) c)) holding lacking Nothing

-- What flows come to as they are carried out, of which so many at most are looked at: a test passes over some, or goes on with the next one;
-- and a skip passes over some.
abbrev pub carried_from : Records → FlowSupport → ℕ → List Flow → Deeds Test
carried_from r on zero fs = Nothing
carried_from r on (suc n) [] = Nothing
carried_from r on (suc n) (flow.Moves number ∷ rest) = Moving (moves_between_marks r on.moves number (number + 1)) (carried_from r on n rest)
carried_from r on (suc n) (flow.Turns number ∷ rest) = both_deeds (loop_done r on (slice_get on.loops number)) (carried_from r on n rest)
carried_from r on (suc n) (flow.Until bound number skip ∷ rest) =
    either_way r (slice_get on.bounds bound) number (carried_from r on n (drop skip rest)) (carried_from r on n rest)
carried_from r on (suc n) (flow.Where condition holding lacking ∷ rest) =
    either_holds r on (slice_get on.conditions condition) (carried_from r on n rest) (carried_from r on n (behind_skip holding rest))
carried_from r on (suc n) (flow.Skip count ∷ rest) = carried_from r on n (drop count rest)

-- Whatever the flows that are left make of the storage now, these make of the storage before.
abbrev pub LeavesFlows : Records → FlowSupport → (fs left : List Flow) → (input before now : List ℕ) → Type 0
LeavesFlows r on fs left input before now = (n : ℕ) → length fs ≤ n
    → (m : ℕ) × (length left ≤ m)
    × ((end : Ending) → Carried (Judged r) r (carried_from r on m left) input now end → Carried (Judged r) r (carried_from r on n fs) input before end)

-- they stop there
abbrev pub StopsFlows : Records → FlowSupport → List Flow → (input before : List ℕ) → Stop → List ℕ → Type 0
StopsFlows r on fs input before stop after = (n : ℕ) → length fs ≤ n → Carried (Judged r) r (carried_from r on n fs) input before (stopped stop after)

-- However many receivers of what the flows that are left come to meet the item of a count, of the storage now, these do, of the storage before, with those that
-- met one so far.
abbrev pub MeetFlows : Records → FlowSupport → (fs left : List Flow) → (input before now : List ℕ) → (met : ℕ) → Type 0
MeetFlows r on fs left input before now met = (n : ℕ) → length fs ≤ n
    → (m : ℕ) × (length left ≤ m)
    × ((k : ℕ) → DeedsHaveMet r (carried_from r on m left) input now k → DeedsHaveMet r (carried_from r on n fs) input before (met + k))

-- so many of these met one, up to a stop
abbrev pub MetFlows : Records → FlowSupport → List Flow → (input before : List ℕ) → (met : ℕ) → Type 0
MetFlows r on fs input before met = (n : ℕ) → length fs ≤ n → DeedsHaveMet r (carried_from r on n fs) input before met

-- what the reads of a flow in front are, where some are left
abbrev pub FlowSpends : Records → FlowSupport → (fs left : List Flow) → (input before now : List ℕ) → (old new : Scratching) → Type 0
FlowSpends r on fs left input before now old new = (met : ℕ) × MeetFlows r on fs left input before now met
    × (new.reads + kept_among r.output old.kept_output ≤ old.reads + kept_among r.output new.kept_output + allowed r.output met)

-- what they are at a stop
abbrev pub FlowSpendsAtStop : Records → FlowSupport → List Flow → (input before : List ℕ) → (old new : Scratching) → Type 0
FlowSpendsAtStop r on fs input before old new = (met : ℕ) × MetFlows r on fs input before met
    × (new.reads + kept_among r.output old.kept_output ≤ old.reads + length (tables_of r.output) + allowed r.output met)

-- Flows were carried out up to those that are left: what these make of the storage now, all make of the storage before; and what was read so far is what was met.
pub record AreCarriedTo (r : Records) (on : FlowSupport) (all left : List Flow) (input before now : List ℕ) (old new : Scratching) : Type 0 where
  pub leaves : LeavesFlows r on all left input before now
  pub each : AllByRecursion (IsFlow on) left
  pub spends : FlowSpends r on all left input before now old new
  pub kept : HasKept r input now new

-- something is missing for one of them: they stop there
pub record StopWithin (r : Records) (on : FlowSupport) (all : List Flow) (input before : List ℕ) (stop : Stop) (after : List ℕ) (old new : Scratching) : Type 0 where
  pub stops : StopsFlows r on all input before stop after
  pub spent : FlowSpendsAtStop r on all input before old new
  pub kept : HasKept r input after new
