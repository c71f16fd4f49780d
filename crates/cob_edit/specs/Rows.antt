-- Rows: texts of a picture that are made ready, for all numbers that have so many zeros in front.
use Rattle.std.specs.Prelude.{◌≡◌, ℕ, ◌+◌, Bool, ◌||◌, ◌&&◌, ◌==◌, nat_le, if◌then◌else◌, List, Option, length, map, take, slice_index, count_by}
use Rattle.std.specs.List.{prefix_len}
use Rattle.std.specs.Option.{option_to_list}
use Rattle.cob_cp037.specs.Named.{zero_byte}
use Rattle.cob_decimal.specs.Decimal.{IsDigits}
use Rattle.cob_picture.specs.Positions.{PlainPicture}
use Rattle.cob_picture.specs.Counts.{digits, scale}
use Rattle.cob_edit.specs.declared.cell.TextCell.{TextCell}
use Rattle.cob_edit.specs.declared.cell.TextCell.TheVariants.{Same, Signed, Taken}
use Rattle.cob_edit.specs.declared.place.EditedPlace.{EditedPlace}
use Rattle.cob_edit.specs.Places.{is_digit}
use Rattle.cob_edit.specs.Editing.{IsText, region_start, region_end}
use Rattle.cob_edit.specs.Pictured.{places, IsEdited}

-- the byte that a cell is in the text of a number with these digits that is negative or not
abbrev pub cell_byte : List ℕ → Bool → TextCell → ℕ
cell_byte ds negative (Same byte) = byte
cell_byte ds negative (Signed plus minus) = if negative then minus else plus
cell_byte ds negative (Taken number) = slice_index ds number + zero_byte

-- The bytes of a row for these digits and this sign.
abbrev pub row_bytes : List ℕ → Bool → List TextCell → List ℕ
row_bytes ds negative row = map (cell_byte ds negative) row

-- No digit stands before the region, or there is no region: so the zeros in front of a number alone tell where its suppressed places end.
abbrev pub zeros_tell : List EditedPlace → Bool
zeros_tell ps = nat_le (region_end ps) (region_start ps) || count_by is_digit (take (region_start ps) ps) == 0

-- the places of the picture
abbrev pub ArePlacesOf : PlainPicture → List EditedPlace → Type 0
ArePlacesOf picture ps = ps ≡ places picture.positions

-- The row has the text that the picture gives each number, of as many digits as it has and at its scale, that has so many zeros in front.
abbrev pub IsRowOf : PlainPicture → (blank : Bool) → (zeros : ℕ) → List TextCell → Type 0
IsRowOf picture blank zeros row =
    (negative : Bool) (ds : List ℕ)
    → IsDigits ds
    → length ds ≡ digits picture.positions
    → prefix_len (λ d. d == 0) ds ≡ zeros
    → IsEdited picture blank negative ds (scale picture.positions) (row_bytes ds negative row)

-- of the next digit, whichever digits and sign it is of, a cell or none shows these bytes, where a minus may show
abbrev pub CellShows : Option TextCell → (shows : Bool) → (next : ℕ) → (Bool → ℕ → List ℕ) → Type 0
CellShows cell shows next bytes = (ds : List ℕ) (negative : Bool)
    → map (cell_byte ds negative) (option_to_list cell) ≡ bytes (negative && shows) (slice_index ds next)

-- of all digits with so many zeros in front, whatever their sign, a row is the text that the places show, where a minus may show
abbrev pub RowShows : List EditedPlace → (blank shows : Bool) → (zeros : ℕ) → List TextCell → Type 0
RowShows ps blank shows zeros row = (ds : List ℕ) (negative : Bool) → length ds ≡ count_by is_digit ps
    → prefix_len (λ d. d == 0) ds ≡ zeros → IsText ps blank (negative && shows) ds (row_bytes ds negative row)
