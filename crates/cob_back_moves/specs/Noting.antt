-- Notes of the statements in which occurrences receive, by the bytes at which the occurrences begin.
use Rattle.std.specs.Prelude.{◌≡◌, ◌<◌, ℕ, List, Option, None, Some, get_or, set, length}
use Rattle.cob_copybook_tree.specs.Forests.{Forest}
use Rattle.cob_copybook_tree.specs.Nodes.{Resolved}
use Rattle.cob_layout.specs.Counting.{greatest_counts}
use Rattle.cob_layout_places.specs.Cover.{Occurrence}
use Rattle.cob_layout_places.specs.Lengths.{times}
use Rattle.cob_layout_places.specs.Places.{place_of}
use Rattle.cob_layout_places.specs.declared.places.Found.{Found}

-- The occurrence begins at this byte of the record, where each table has its greatest number of elements.
pub record BeginsAt (tree : Forest Resolved) (x : Occurrence) (at : ℕ) : Type 0 where
  pub found : Found
  pub place : place_of (times (greatest_counts tree)) x.number tree 0 0 x.subscripts ≡ Some found
  pub begins : found.offset ≡ at

-- these notes become those by a note at a byte at which there was none
pub record IsNotedFirst (noted : List (Option ℕ)) (at statement : ℕ) (after : List (Option ℕ)) : Type 0 where
  pub within : at < length noted
  pub none : get_or noted at None ≡ None
  pub made : after ≡ set noted at (Some statement)

-- these notes become those by a note where an occurrence begins, at a byte at which there was none
pub record NotesFirst (tree : Forest Resolved) (noted : List (Option ℕ)) (x : Occurrence) (after : List (Option ℕ)) : Type 0 where
  pub at : ℕ
  pub begins : BeginsAt tree x at
  pub statement : ℕ
  pub first : IsNotedFirst noted at statement after
