-- How many counts of the output record are read as moves are carried out.
use Rattle.std.specs.Prelude.{◌≡◌, ◌⊎◌, ℕ, ◌+◌, ◌*◌, ◌≤◌, List, ◌++◌, length, Ok, Err, Result}
use Rattle.cob_copybook_tree.specs.Forests.{Forest}
use Rattle.cob_copybook_tree.specs.Nodes.{Resolved}
use Rattle.cob_layout.specs.declared.fields.Place.{Place}
use Rattle.cob_layout.specs.Kept.{kept_in, kept_numbers}
use Rattle.cob_move_data.specs.declared.operands.Operand.{Operand}
use Rattle.cob_layout_places.specs.Counts.{tables_of}
use Rattle.cob_move_data.specs.Moves.{Move, Records}
use Rattle.cob_move_apply.specs.Applied.{Content}
use Rattle.cob_move_apply.specs.Met.{HaveMet, MeetsItem, ReceiverMet, ReceiversMet}
use Rattle.cob_move_apply.specs.declared.stop.Stop.{Stop}
use Rattle.cob_move_apply.specs.declared.survey.Survey.{Survey}

-- how many counts are kept
abbrev pub kept_of : Forest Resolved → Survey → ℕ
kept_of tree s = kept_in (tables_of tree) (kept_numbers s.counts.kept)

-- how many reads are allowed for receivers that met the item of a count: one of each table for each of them
abbrev pub allowed : Forest Resolved → ℕ → ℕ
allowed tree met = met * length (tables_of tree)

-- no more counts were read than are kept now and weren't before, but for those that are allowed
pub record IsSpent (tree : Forest Resolved) (met : ℕ) (old new : Survey) : Type 0 where
  pub most : new.reads + kept_of tree old ≤ old.reads + kept_of tree new + allowed tree met

-- no more counts were read than weren't kept before, but for those that are allowed
pub record IsSpentAtStop (tree : Forest Resolved) (met : ℕ) (old new : Survey) : Type 0 where
  pub most : new.reads + kept_of tree old ≤ old.reads + length (tables_of tree) + allowed tree met

-- what an answer says of the reads
abbrev pub Spends : {A : Type 0} → Forest Resolved → ℕ → Result A Stop → Survey → Survey → Type 0
Spends tree met (Ok a) old new = IsSpent tree met old new
Spends tree met (Err stop) old new = IsSpentAtStop tree met old new

-- one place, or none, met the item of a count of a storage
abbrev pub PlaceMet : Forest Resolved → List ℕ → Place → ℕ → Type 0
PlaceMet tree before p n = (n ≡ 0) ⊎ ((n ≡ 1) × MeetsItem tree before p)

-- the place was written
abbrev pub PlaceSpends : Forest Resolved → List ℕ → Place → Survey → Survey → Type 0
PlaceSpends tree before p old new = (met : ℕ) × PlaceMet tree before p met × IsSpent tree met old new

-- the place was written where all went well, or nothing was
abbrev pub WriteSpends : {A : Type 0} → Forest Resolved → List ℕ → Place → Result A Stop → Survey → Survey → Type 0
WriteSpends tree before p (Ok a) old new = PlaceSpends tree before p old new
WriteSpends tree before p (Err stop) old new = IsSpent tree 0 old new

-- a receiver got what is sent, or was stopped
abbrev pub ReceiverSpends : {A : Type 0} → Forest Resolved → Operand → List ℕ → Result A Stop → Survey → Survey → Type 0
ReceiverSpends tree o before (Ok a) old new = (met : ℕ) × ReceiverMet tree o before met × IsSpent tree met old new
ReceiverSpends tree o before (Err stop) old new = IsSpentAtStop tree 0 old new

-- so many of these receivers met the item of a count, and those of moves behind them where all went well
abbrev pub ReceiversBehind : {A : Type 0} → Forest Resolved → Content → List Operand → List ℕ → ℕ → Result A Stop → List ℕ → Type 0
ReceiversBehind tree content os before met (Ok a) after =
    (r : Records) (ms : List Move) (input : List ℕ) (rest : ℕ) → HaveMet r ms input after rest
    → ReceiversMet tree content os before (met + rest) (λ now n. HaveMet r ms input now n)
ReceiversBehind tree content os before met (Err stop) after =
    (r : Records) (ms : List Move) (input : List ℕ) → ReceiversMet tree content os before met (λ now n. HaveMet r ms input now n)

-- what the reads of receivers are
abbrev pub ReceiversSpend : {A : Type 0} → Forest Resolved → Content → List Operand → List ℕ → Result A Stop → List ℕ → Survey → Survey → Type 0
ReceiversSpend tree content os before result after old new =
    (met : ℕ) × ReceiversBehind tree content os before met result after × Spends tree met result old new

-- so many receivers of these moves met the item of a count, and those of moves behind them where all went well
abbrev pub MetBehind : {A : Type 0} → Records → List Move → List ℕ → List ℕ → ℕ → Result A Stop → List ℕ → Type 0
MetBehind r own input before met (Ok a) after = (ms : List Move) (rest : ℕ) → HaveMet r ms input after rest → HaveMet r (own ++ ms) input before (met + rest)
MetBehind r own input before met (Err stop) after = (ms : List Move) → HaveMet r (own ++ ms) input before met

-- what the reads of moves are
abbrev pub MovesSpend : {A : Type 0} → Records → List Move → List ℕ → List ℕ → Result A Stop → List ℕ → Survey → Survey → Type 0
MovesSpend r own input before result after old new =
    (met : ℕ) × MetBehind r own input before met result after × Spends r.output met result old new

-- the same of moves that all went well
abbrev pub HaveSpent : Records → List Move → (input before after : List ℕ) → Survey → Survey → Type 0
HaveSpent r own input before after old new =
    (met : ℕ) × ((ms : List Move) (rest : ℕ) → HaveMet r ms input after rest → HaveMet r (own ++ ms) input before (met + rest)) × IsSpent r.output met old new
