-- How far a stream of records has come, of which some are chosen, and one more.
use Rattle.std.specs.Prelude.{◌≡◌, ◌⊎◌, ◌≤◌, ℕ, List, [], ◌++◌, Option, Result, IfOk, IfSome}
use Rattle.cob_records.specs.Alone.{framed_alone}
use Rattle.cob_records.specs.Device.{Told}
use Rattle.cob_records_parts.specs.Choices.{HasCome, HasStopped}
use Rattle.cob_records_parts.specs.declared.choice.Stopped.{Stopped}
use Rattle.cob_records_parts.specs.declared.walk.Walk.{Walk}

-- A stream has come so far, and these bytes are the records that are chosen of what came.
abbrev pub HasWalkedTo : Walk → (chosen bytes rest : List ℕ) → Type 0
HasWalkedTo walk chosen bytes rest = HasCome walk.form walk.greatest walk.skip walk.number walk.left chosen bytes rest

-- the same records are chosen of a stream in the same form
abbrev pub IsSameChoice : Walk → Walk → Type 0
IsSameChoice before now = (now.form ≡ before.form) × (now.greatest ≡ before.greatest) × (now.skip ≡ before.skip) × (now.last ≡ before.last)

-- Whatever was chosen of what came before is what is chosen of what has come now.
abbrev pub PassesOver : Walk → Walk → (coming left : Option (List ℕ)) → Type 0
PassesOver before now coming left = (first : Option (List ℕ)) (chosen : List ℕ) → Told first coming (HasWalkedTo before chosen) → Told first left (HasWalkedTo now chosen)

-- The same, and no byte is left.
abbrev pub EndsAt : Walk → Walk → (coming left : Option (List ℕ)) → Type 0
EndsAt before now coming left =
    (first : Option (List ℕ)) (chosen : List ℕ) → Told first coming (HasWalkedTo before chosen) → Told first left (λ bytes rest. HasWalkedTo now chosen bytes rest × (rest ≡ []))

-- The last record that is chosen has come, or no byte is left.
abbrev pub IsThrough : Walk → Walk → (coming left : Option (List ℕ)) → Type 0
IsThrough before now coming left = (now.number ≡ now.last) ⊎ EndsAt before now coming left

-- The first record that is chosen is the next one, or no byte is left.
abbrev pub ReachesFirst : Walk → Walk → (coming left : Option (List ℕ)) → Type 0
ReachesFirst before now coming left = (now.skip ≤ now.number) ⊎ EndsAt before now coming left

-- Behind whatever was chosen of what came before, these bytes are chosen too.
abbrev pub TakesChosen : List ℕ → Walk → Walk → (coming left : Option (List ℕ)) → Type 0
TakesChosen part before now coming left =
    (first : Option (List ℕ)) (chosen : List ℕ) → Told first coming (HasWalkedTo before chosen) → Told first left (HasWalkedTo now (chosen ++ part))

-- where the first record that is chosen has come, a record of these bytes is one of them
abbrev pub TakesRecord : List ℕ → Walk → Walk → (coming left : Option (List ℕ)) → Type 0
TakesRecord body before now coming left = before.skip ≤ before.number → TakesChosen (framed_alone before.form body) before now coming left

-- what is true of the length of the next record, where there is one
abbrev pub IfFound : Result (Option ℕ) Stopped → (ℕ → Type 0) → Type 0
IfFound result P = IfOk result (λ found. IfSome found P)

-- Behind whatever was chosen of what came before, the frame of the next record can't be read.
abbrev pub StopsWalkAt : Stopped → Walk → (coming left : Option (List ℕ)) → Type 0
StopsWalkAt stop before coming left =
    (first : Option (List ℕ)) (chosen : List ℕ) → Told first coming (HasWalkedTo before chosen)
    → Told first left (HasStopped before.form before.greatest before.skip stop chosen)
