-- How a number is edited: the text that the places of an item give its digits and its sign.
use Rattle.std.specs.Prelude.{◌≡◌, ℕ, ◌+◌, ◌-◌, ◌<◌, ◌≤◌, Bool, false, ◌&&◌, ◌||◌, not, nat_le, nat_lt, ◌==◌, if◌then◌else◌, List, [], ◌∷◌, ◌++◌, length, take, drop, slice_index, slice_index_or, count_by, IsTrue, MatchBool, ◌⊎◌}
use Rattle.std.specs.List.{prefix_len, list_all, list_any, flat_map}
use Rattle.cob_cp037.specs.Named.{asterisk_byte, nine_byte, point_byte, space_byte, zero_byte}
use Rattle.cob_decimal.specs.Decimal.{IsDigits}
use Rattle.cob_edit.specs.declared.place.EditedPlace.{EditedPlace}
use Rattle.cob_edit.specs.declared.place.EditedPlace.TheVariants.{Inserted, Point, Digit, Suppressed, Floating, First, Fixed, AssumedPoint}
use Rattle.cob_edit.specs.Places.{mark_byte, fill_byte, is_digit, is_run, is_run_or_insertion, is_point_place, has_byte, is_nine, is_star, is_fixed_sign, is_floating_sign}

-- the place with this number, from 0
abbrev pub place_at : List EditedPlace → ℕ → EditedPlace
place_at ps j = slice_index_or ps j (Inserted 0)

-- ---- the region

-- The region begins at the run's first symbol. Where the point comes first, or there is no run, it is empty.
abbrev pub region_start : List EditedPlace → ℕ
region_start ps = prefix_len (λ p. not (is_run p || is_point_place p)) ps

-- It goes on over symbols of the run and insertions, so that it never passes the point.
abbrev pub region_end : List EditedPlace → ℕ
region_end ps = region_start ps + prefix_len is_run_or_insertion (drop (region_start ps) ps)

-- ---- the cut

-- The digit of a place is the one whose number is the count of digit places before it.
abbrev pub digit_of : List EditedPlace → List ℕ → ℕ → ℕ
digit_of ps ds j = slice_index ds (count_by is_digit (take j ps))

-- A cut is a place from the region's first to just after its last. Every digit of the region before it is 0, and it is a digit place
-- whose digit isn't 0, or just after the region.
pub record IsSuppressedTo (ps : List EditedPlace) (ds : List ℕ) (k : ℕ) : Type 0 where
  pub from : region_start ps ≤ k
  pub to : k ≤ region_end ps
  pub zeros : (j : ℕ) → region_start ps ≤ j → j < k → IsTrue (is_digit (place_at ps j)) → digit_of ps ds j ≡ 0
  pub stop : (k ≡ region_end ps) ⊎ (IsTrue (is_digit (place_at ps k)) × (0 < digit_of ps ds k))

-- ---- the places

-- What a place of the region before the cut holds, by the region's first place: the asterisk or space of the run. What floats stands
-- at the last of these places, directly before the cut.
abbrev pub hidden : EditedPlace → (negative at_cut : Bool) → ℕ
hidden (Suppressed fill) negative at_cut = fill_byte fill
hidden (First mark) negative at_cut = if at_cut then mark_byte mark negative else space_byte
hidden (Inserted byte) negative at_cut = space_byte
hidden Point negative at_cut = space_byte
hidden Digit negative at_cut = space_byte
hidden Floating negative at_cut = space_byte
hidden (Fixed mark) negative at_cut = space_byte
hidden AssumedPoint negative at_cut = space_byte

-- What every other place holds: its digit, insertion, point, sign or currency sign. The first floating symbol holds no digit.
abbrev pub shown : EditedPlace → Bool → ℕ → List ℕ
shown (Inserted byte) negative d = byte ∷ []
shown Point negative d = point_byte ∷ []
shown Digit negative d = (d + zero_byte) ∷ []
shown (Suppressed fill) negative d = (d + zero_byte) ∷ []
shown Floating negative d = (d + zero_byte) ∷ []
shown (First mark) negative d = space_byte ∷ []
shown (Fixed mark) negative d = mark_byte mark negative ∷ []
shown AssumedPoint negative d = []

-- the bytes of place j, which is p and has the digit d, where the cut is k
abbrev pub cell : List EditedPlace → Bool → ℕ → ℕ → EditedPlace → ℕ → List ℕ
cell ps negative k j p d =
    if nat_le (region_start ps) j && nat_lt j k
    then hidden (place_at ps (region_start ps)) negative (j + 1 == k) ∷ []
    else shown p negative d

-- the bytes of the places from place j on, which are rest
abbrev pub printed : List EditedPlace → List ℕ → Bool → ℕ → ℕ → List EditedPlace → List ℕ
printed ps ds negative k j [] = []
printed ps ds negative k j (p ∷ rest) = cell ps negative k j p (digit_of ps ds j) ++ printed ps ds negative k (j + 1) rest

-- ---- zero

-- What a place holds where the value 0 shows nothing: a space, or an asterisk everywhere but at the point.
abbrev pub empty_cell : Bool → EditedPlace → List ℕ
empty_cell stars AssumedPoint = []
empty_cell stars Point = (if stars then point_byte else space_byte) ∷ []
empty_cell stars (Inserted byte) = (if stars then asterisk_byte else space_byte) ∷ []
empty_cell stars Digit = (if stars then asterisk_byte else space_byte) ∷ []
empty_cell stars (Suppressed fill) = (if stars then asterisk_byte else space_byte) ∷ []
empty_cell stars Floating = (if stars then asterisk_byte else space_byte) ∷ []
empty_cell stars (First mark) = (if stars then asterisk_byte else space_byte) ∷ []
empty_cell stars (Fixed mark) = (if stars then asterisk_byte else space_byte) ∷ []

-- asterisks stand for the value 0 if they do for a suppressed one, and the item isn't BLANK WHEN ZERO
abbrev pub has_stars : List EditedPlace → Bool → Bool
has_stars ps blank = not blank && list_any is_star ps

-- the digits are all 0
abbrev pub are_zero : List ℕ → Bool
are_zero ds = list_all (λ d. d == 0) ds

-- the value is 0, and the item is BLANK WHEN ZERO or each of its digits is of the run
abbrev pub shows_nothing : List EditedPlace → Bool → List ℕ → Bool
shows_nothing ps blank ds = are_zero ds && (blank || list_all (λ p. not (is_nine p)) ps)

-- ---- the whole text

-- The bytes are the text that the places give these digits and this sign.
abbrev pub IsText : List EditedPlace → Bool → Bool → List ℕ → List ℕ → Type 0
IsText ps blank negative ds bytes =
    MatchBool (shows_nothing ps blank ds)
    (bytes ≡ flat_map (empty_cell (has_stars ps blank)) ps)
    ((k : ℕ) × IsSuppressedTo ps ds k × (bytes ≡ printed ps ds negative k 0 ps))

-- the places tell the sign: one stands in its place, or floats
abbrev pub shows_sign : List EditedPlace → Bool
shows_sign ps = list_any is_fixed_sign ps || is_floating_sign (place_at ps (region_start ps))

-- Digits and a sign that the places can show: a digit for each digit place, and a minus only where the sign shows and a digit isn't 0.
pub record FitsPlaces (ps : List EditedPlace) (negative : Bool) (ds : List ℕ) : Type 0 where
  pub digits : IsDigits ds
  pub count : length ds ≡ count_by is_digit ps
  pub nonzero : IsTrue negative → are_zero ds ≡ false
  pub sign : IsTrue negative → IsTrue (shows_sign ps)

-- ---- reading a text back

-- the digit that a byte shows, and 0 for a byte that shows none
abbrev pub shown_digit : ℕ → ℕ
shown_digit byte = if nat_lt zero_byte byte && nat_le byte nine_byte then byte - zero_byte else 0

-- the digits that stand at the digit places of a text, whatever it is
abbrev pub extract : List EditedPlace → List ℕ → List ℕ
extract [] bytes = []
extract (p ∷ ps) bytes = (if is_digit p then shown_digit (slice_index bytes 0) ∷ [] else []) ++ extract ps (if has_byte p then drop 1 bytes else bytes)
