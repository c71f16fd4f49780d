-- Receivers whose places meet the items of counts, among all that is done.
use Rattle.std.specs.Prelude.{◌≡◌, ◌⊎◌, ℕ, ◌+◌, true, false, List, Ok, Result}
use Rattle.cob_move_data.specs.Moves.{Records}
use Rattle.cob_move_apply.specs.Applied.{Applied, done}
use Rattle.cob_move_apply.specs.Met.{HaveMet}
use Rattle.cob_move_apply.specs.Reads.{ReadsFor}
use Rattle.cob_move_apply.specs.Room.{Scratching}
use Rattle.cob_move_apply.specs.declared.stop.Stop.{Stop}
use Rattle.cob_move_deeds.specs.Deeds.{Carried, Choice, Deeds, Moving, Nothing}
use Rattle.cob_move_deeds.specs.Tests.{Judged, Test}

-- So many in front, and from what they leave so many behind; or those in front alone.
abbrev pub MetThen : (front : ℕ → Type 0) (goes : List ℕ → Type 0) (behind : List ℕ → ℕ → Type 0) → ℕ → Type 0
MetThen front goes behind n = front n ⊎ ((after : List ℕ) × (own rest : ℕ) × (n ≡ own + rest) × goes after × front own × behind after rest)

-- At least so many of the receivers of what is done met the item of a count of the output record: each got what was sent to it, and its place had a byte of the
-- item before. A test meets none.
abbrev pub DeedsHaveMet : Records → Deeds Test → (input before : List ℕ) → ℕ → Type 0
DeedsHaveMet r Nothing input before n = n ≡ 0
DeedsHaveMet r (Moving ms more) input before n =
    MetThen (HaveMet r ms input before) (λ after. Applied r ms input before (done after)) (λ after k. DeedsHaveMet r more input after k) n
DeedsHaveMet r (Choice t holding lacking more) input before n = (n ≡ 0)
    ⊎ ((Judged r t input before (Ok true)
    × MetThen (λ k. DeedsHaveMet r holding input before k) (λ after. Carried (Judged r) r holding input before (done after)) (λ after k. DeedsHaveMet r more input after k) n)
    ⊎ (Judged r t input before (Ok false)
    × MetThen (λ k. DeedsHaveMet r lacking input before k) (λ after. Carried (Judged r) r lacking input before (done after)) (λ after k. DeedsHaveMet r more input after k) n))

-- what an answer says of the reads of what is done
abbrev pub ReadsOfDeeds : {A : Type 0} → Records → Deeds Test → (input before : List ℕ) → Result A Stop → Scratching → Scratching → Type 0
ReadsOfDeeds r d input before result old new = (met : ℕ) × DeedsHaveMet r d input before met × ReadsFor r.output met result old new
