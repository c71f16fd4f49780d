-- The condition-names of the two records, as a reference may name them.
use Rattle.std.specs.Prelude.{◌≡◌, ◌==◌, ◌&&◌, ℕ, Bool, true, false, if◌then◌else◌, List, [], ◌∷◌, ◌++◌, Option, Some, None, filter, map}
use Rattle.std.specs.List.{flat_map}
use Rattle.cob_copybook_conditions.specs.Names.{PlainConditionName, PlainSpan, plain_condition_names}
use Rattle.cob_copybook_names.specs.Naming.{Bearer, with_name}
use Rattle.cob_copybook_tree.specs.Forests.{Forest}
use Rattle.cob_copybook_tree.specs.Nodes.{Resolved}
use Rattle.cob_move_data.specs.declared.operands.Side.{Side}
use Rattle.cob_move_data.specs.declared.operands.Side.TheVariants.{In, Out}
use Rattle.cob_move_names.specs.declared.valued.ConditionNames.{ConditionNames}
use Rattle.cob_move_names.specs.Candidates.{Candidate, RecordEntry, candidates}

-- The condition-names of the copybooks of two records, each in the order of its text.
pub record PlainConditionNames : Type 0 where
  pub input : List PlainConditionName
  pub output : List PlainConditionName

-- What is known of a condition-name besides its names: its item, and its values, of which there is one at least.
pub record ValuedEntry : Type 0 where
  pub item : RecordEntry
  pub first : PlainSpan
  pub more : List PlainSpan

-- The condition-names of the copybooks, without where they lie in memory.
abbrev pub plain_names : ConditionNames → PlainConditionNames
plain_names names = record { input = plain_condition_names names.input.now; output = plain_condition_names names.output.now }

-- A condition-name of an entry, which has these values: it is qualified by the entry, and by the groups above that. Without values it names nothing.
abbrev pub valued_by : List PlainSpan → PlainConditionName → Candidate → List (Bearer ValuedEntry)
valued_by [] n c = []
valued_by (v ∷ more) n c = record { name = Some n.name; above = with_name c.name c.above; entry = record { item = c.entry; first = v; more = more } } ∷ []

-- The same, with its own values.
abbrev pub valued : PlainConditionName → Candidate → List (Bearer ValuedEntry)
valued n c = valued_by n.values n c

-- A condition-name belongs to the entry that has its number.
abbrev pub named_value : List Candidate → PlainConditionName → List (Bearer ValuedEntry)
named_value cs n = flat_map (valued n) (filter (λ c. c.entry.number == n.entry) cs)

-- The condition-names of entries of one record, in their order.
abbrev pub named_values : List Candidate → List PlainConditionName → List (Bearer ValuedEntry)
named_values cs ns = flat_map (named_value cs) ns

-- The condition-names of the input record, and behind them those of the output record.
abbrev pub all_values : Forest Resolved → Forest Resolved → PlainConditionNames → List (Bearer ValuedEntry)
all_values input output names = named_values (candidates In [] [] input) names.input ++ named_values (candidates Out [] [] output) names.output

-- It is one side, and no other.
abbrev pub same_side : Side → Side → Bool
same_side In In = true
same_side In Out = false
same_side Out In = false
same_side Out Out = true

-- The first of these entries that is of this side's record and has this number, if one is.
abbrev pub entry_with : Side → ℕ → List Candidate → Option RecordEntry
entry_with side n [] = None
entry_with side n (c ∷ cs) = if same_side c.entry.side side && (c.entry.number == n) then Some c.entry else entry_with side n cs

-- The items of condition-names are among these entries.
abbrev pub AreOfEntries : List Candidate → List (Bearer ValuedEntry) → Type 0
AreOfEntries cs vs = map (λ b. entry_with b.entry.item.side b.entry.item.number cs) vs ≡ map (λ b. Some b.entry.item) vs
