-- The region and the sign of a numeric edited picture, in the words of the editing rules.
use Rattle.std.specs.Prelude.{◌≡◌, ℕ, ◌<◌, ◌≤◌, ◌⊎◌, Bool, true, false, List, length}
use Rattle.cob_picture.specs.declared.category.Category.TheVariants.{NumericEdited}
use Rattle.cob_picture.specs.Positions.{PlainPicture}
use Rattle.cob_picture.specs.Counts.{signed}
use Rattle.cob_picture.specs.Pictures.{IsPictureOf}
use Rattle.cob_edit.specs.declared.place.EditedPlace.{EditedPlace}
use Rattle.cob_edit.specs.declared.place.EditedPlace.TheVariants.{Inserted, Point, Digit, Suppressed, Floating, First, Fixed, AssumedPoint}
use Rattle.cob_edit.specs.Places.{is_run, is_point_place}
use Rattle.cob_edit.specs.Editing.{place_at, region_start, region_end, shows_sign}
use Rattle.cob_edit.specs.Pictured.{places}

-- an insertion: B, 0, a stroke or a comma
abbrev pub is_insertion : EditedPlace → Bool
is_insertion (Inserted byte) = true
is_insertion Point = false
is_insertion Digit = false
is_insertion (Suppressed fill) = false
is_insertion Floating = false
is_insertion (First mark) = false
is_insertion (Fixed mark) = false
is_insertion AssumedPoint = false

-- place j holds a symbol of the run, left of the point
pub record IsOfRun (ps : List EditedPlace) (j : ℕ) : Type 0 where
  pub inside : j < length ps
  pub run : is_run (place_at ps j) ≡ true
  pub left : (k : ℕ) → k ≤ j → is_point_place (place_at ps k) ≡ false

-- The region goes from the run's first symbol to its last, with the insertions between and those directly at its right, and never
-- past the point: it begins at a symbol of the run, has each that stands left of the point and besides them insertions alone, and
-- no insertion follows it.
pub record IsRegion (ps : List EditedPlace) (from behind : ℕ) : Type 0 where
  pub inside : behind ≤ length ps
  pub first : IsOfRun ps from
  pub all : (j : ℕ) → IsOfRun ps j → (from ≤ j) × (j < behind)
  pub only : (j : ℕ) → from ≤ j → j < behind → (is_run (place_at ps j) ≡ true) ⊎ (is_insertion (place_at ps j) ≡ true)
  pub ends : behind < length ps → is_insertion (place_at ps behind) ≡ false

-- the places have this region, and none where no symbol of the run stands left of the point
pub record HasRegion (ps : List EditedPlace) : Type 0 where
  pub some : (j : ℕ) → IsOfRun ps j → IsRegion ps (region_start ps) (region_end ps)
  pub none : ((j : ℕ) → IsOfRun ps j → ⊥) → region_end ps ≡ region_start ps

-- places have one region at most
abbrev pub OneRegion : Type 0
OneRegion = (ps : List EditedPlace) (from other behind past : ℕ) → IsRegion ps from behind → IsRegion ps other past → (from ≡ other) × (behind ≡ past)

-- each numeric edited picture has the region of its run
abbrev pub RegionsAreOfRuns : Type 0
RegionsAreOfRuns = (text : List ℕ) (picture : PlainPicture) → IsPictureOf text picture → picture.category ≡ NumericEdited → HasRegion (places picture.positions)

-- a numeric edited picture shows a sign exactly where it is signed
abbrev pub SignsAreShown : Type 0
SignsAreShown = (text : List ℕ) (picture : PlainPicture) → IsPictureOf text picture → picture.category ≡ NumericEdited
    → shows_sign (places picture.positions) ≡ signed picture.positions
