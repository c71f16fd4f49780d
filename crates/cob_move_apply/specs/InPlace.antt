-- Moves carried out one after another on storages that all have as many bytes.
use Rattle.std.specs.Prelude.{◌≡◌, ◌⊎◌, ℕ, List, [], ◌∷◌, length}
use Rattle.cob_move_data.specs.Moves.{Move, Records}
use Rattle.cob_move_apply.specs.Applied.{Ending, IsMoved, done, stopped}
use Rattle.cob_move_apply.specs.declared.stop.Stop.{Stop}

-- The moves of a record in order, up to the first that stops: none makes the storage longer or shorter.
abbrev pub AppliedInPlace : Records → List Move → List ℕ → List ℕ → Ending → Type 0
AppliedInPlace r [] input before end = end ≡ done before
AppliedInPlace r (m ∷ ms) input before end =
    ((after : List ℕ) × (length after ≡ length before) × IsMoved r m input before (done after) × AppliedInPlace r ms input after end)
    ⊎ ((stop : Stop) × (after : List ℕ) × IsMoved r m input before (stopped stop after) × (end ≡ stopped stop after))
