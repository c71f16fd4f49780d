-- What contracts see of the counts of the output record that are read as moves are carried out.
use Rattle.std.specs.Prelude.{ℕ, ◌+◌, ◌≤◌, List, length, Ok, Err, Option, Result}
use Rattle.cob_copybook_tree.specs.Forests.{Forest}
use Rattle.cob_copybook_tree.specs.Nodes.{Resolved}
use Rattle.cob_layout.specs.declared.counts.StoredCount.{StoredCount}
use Rattle.cob_layout.specs.Kept.{kept_in, kept_numbers}
use Rattle.cob_layout_places.specs.Counts.{tables_of}
use Rattle.cob_move_data.specs.Moves.{Move, Records}
use Rattle.cob_move_apply.specs.Room.{Scratching}
use Rattle.cob_move_apply.specs.Met.{HaveMet}
use Rattle.cob_move_apply.specs.Spent.{allowed}
use Rattle.cob_move_apply.specs.declared.stop.Stop.{Stop}

-- how many of these counts are kept
abbrev pub kept_among : Forest Resolved → List (Option StoredCount) → ℕ
kept_among tree counts = kept_in (tables_of tree) (kept_numbers counts)

-- No more counts were read than are kept now and weren't before, but for those that are allowed for so many receivers that met the item of one. At a stop it
-- is no more than weren't kept before.
abbrev pub ReadsFor : {A : Type 0} → Forest Resolved → ℕ → Result A Stop → Scratching → Scratching → Type 0
ReadsFor tree met (Ok a) old new =
    new.reads + kept_among tree old.kept_output ≤ old.reads + kept_among tree new.kept_output + allowed tree met
ReadsFor tree met (Err stop) old new = new.reads + kept_among tree old.kept_output ≤ old.reads + length (tables_of tree) + allowed tree met

-- what an answer says of the reads of moves
abbrev pub ReadsOfMoves : {A : Type 0} → Records → List Move → (input before : List ℕ) → Result A Stop → Scratching → Scratching → Type 0
ReadsOfMoves r ms input before result old new = (met : ℕ) × HaveMet r ms input before met × ReadsFor r.output met result old new
