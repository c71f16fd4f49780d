-- A source that gives the chosen records of another: what it has given, and what a read gives.
use Rattle.std.specs.Prelude.{◌≡◌, ◌⊎◌, ◌≤◌, ℕ, ⊤, Bool, false, List, [], ◌++◌, length, None, Some, Option, Err}
use Rattle.cob_records.specs.Device.{Told, counted}
use Rattle.cob_records.specs.Frame.{is_read_failure}
use Rattle.cob_records.specs.declared.records.Form.{Form}
use Rattle.cob_records_parts.specs.Choices.{HasStopped}
use Rattle.cob_records_parts.specs.Helds.{held_bytes}
use Rattle.cob_records_parts.specs.Walks.{HasWalkedTo}
use Rattle.cob_records_parts.specs.declared.walk.Walk.{Walk}
use Rattle.cob_records_parts.specs.declared.choice.ChoiceFault.{ChoiceFault}
use Rattle.cob_records_parts.specs.declared.choice.ChoiceFault.TheVariants as choice
use Rattle.cob_records_parts.specs.declared.choice.Stopped.{Stopped}
use Rattle.cob_records_parts.specs.declared.chosen.Chosen.{Chosen}

-- ---- what it is

-- the source inside
abbrev pub chosen_inner : {R : Type 0} → Chosen R → R
chosen_inner source = source.inner

-- where it stopped, if it has
abbrev pub chosen_stop : {R : Type 0} → Chosen R → Option Stopped
chosen_stop source = source.stopped

-- how many of its reads have failed
abbrev pub chosen_failures : {R : Type 0} → Chosen R → ℕ
chosen_failures source = source.failures

-- how far the source inside has come, and which of its records are chosen
abbrev pub chosen_walk : {R : Type 0} → Chosen R → Walk
chosen_walk source = source.walk

-- ---- what it gives

-- These bytes were given, of records that came from a source that first told those, and tells these now: with what is held they are the records
-- that are chosen of what came.
abbrev pub HasGiven : {R : Type 0} → (first now : Option (List ℕ)) → List ℕ → Chosen R → Type 0
HasGiven first now given source = Told first now (HasWalkedTo source.walk (given ++ held_bytes source.held))

-- Those before the chosen ones have passed, or no byte is left of a source that first told these bytes and tells those now.
abbrev pub IsPassedTo : {R : Type 0} → (first now : Option (List ℕ)) → Chosen R → Type 0
IsPassedTo first now source = (source.walk.skip ≤ source.walk.number) ⊎ Told first now (λ bytes rest. rest ≡ [])

-- Why none of the chosen ones comes of a source that first told these bytes: the frame of one that is passed over can't be read, or memory was refused.
abbrev pub StopsPassing : Form → (greatest skip : ℕ) → (first : Option (List ℕ)) → ChoiceFault → Type 0
StopsPassing form greatest skip first (choice.Stopped stop) = (left : Option (List ℕ)) × Told first left (HasStopped form greatest skip stop [])
StopsPassing form greatest skip first choice.Memory = ⊤

-- what is true of where it stopped, where that is why
abbrev pub IfStopped : ChoiceFault → (Stopped → Type 0) → Type 0
IfStopped (choice.Stopped stop) P = P stop
IfStopped choice.Memory P = ⊤

-- these bytes are given behind whatever was given before
abbrev pub GivesBehind : {R : Type 0} → (R → Option (List ℕ)) → List ℕ → Chosen R → Chosen R → Type 0
GivesBehind coming part before now = (first : Option (List ℕ)) (given : List ℕ) → HasGiven first (coming before.inner) given before
    → HasGiven first (coming now.inner) (given ++ part) now

-- no byte is left of a source that told what came before, where that is what had been given
abbrev pub HasNoneLeft : {R : Type 0} → (R → Option (List ℕ)) → Chosen R → Chosen R → Type 0
HasNoneLeft coming before now = (first : Option (List ℕ)) (given : List ℕ) → HasGiven first (coming before.inner) given before
    → Told first (coming now.inner) (λ bytes rest. rest ≡ [])

-- Nothing more is given: the last record that is chosen has come, or no byte is left.
abbrev pub IsExhausted : {R : Type 0} → (R → Option (List ℕ)) → Chosen R → Chosen R → Type 0
IsExhausted coming before now = (now.walk.number ≡ now.walk.last) ⊎ HasNoneLeft coming before now

-- where nothing is held, nothing more is given
abbrev pub IsRefilled : {R : Type 0} → (R → Option (List ℕ)) → Chosen R → Chosen R → Type 0
IsRefilled coming before now = length (held_bytes now.held) ≡ 0 → IsExhausted coming before now

-- nothing is held, and nothing more is given
abbrev pub IsDrained : {R : Type 0} → (R → Option (List ℕ)) → Chosen R → Chosen R → Type 0
IsDrained coming before now = (held_bytes now.held ≡ []) × IsExhausted coming before now

-- It stops at this record: behind whatever was given before, its frame can't be read.
abbrev pub StopsGivingAt : {R : Type 0} → (R → Option (List ℕ)) → Option Stopped → Chosen R → Chosen R → Type 0
StopsGivingAt coming None before now = ⊥
StopsGivingAt coming (Some stop) before now = (first : Option (List ℕ)) (given : List ℕ) → HasGiven first (coming before.inner) given before
    → Told first (coming now.inner) (HasStopped before.walk.form before.walk.greatest before.walk.skip stop given)

-- it stops
abbrev pub StopsGiving : {R : Type 0} → (R → Option (List ℕ)) → Chosen R → Chosen R → Type 0
StopsGiving coming before now = StopsGivingAt coming now.stopped before now

-- a read of the source inside failed
abbrev pub is_failed_stop : Option Stopped → Bool
is_failed_stop None = false
is_failed_stop (Some stop) = is_read_failure (Err stop.fault)

-- the source inside failed in a read where that is why it stopped, and in no other
abbrev pub CountsInnerReads : {R : Type 0} → (R → ℕ) → Chosen R → Chosen R → Type 0
CountsInnerReads failures before now = failures now.inner ≡ counted (is_failed_stop now.stopped) (failures before.inner)
