-- Items that lose nothing of what another item holds.
use Rattle.std.specs.Prelude.{◌≡◌, ◌⊎◌, ℕ, ◌≤◌, ◌≤ℤ◌, Bool, true, false, not, ◌&&◌, List, IsTrue, MatchBool}
use Rattle.cob_picture.specs.Positions.{shows_number}
use Rattle.cob_picture.specs.Counts.{digits_before, scale, signed}
use Rattle.cob_codec.specs.declared.reading.Reading.{Reading}
use Rattle.cob_codec.specs.declared.reading.Reading.TheVariants.{AnyZones, Pictured, Whole, WholeAnyZones}
use Rattle.cob_copybook_tree.specs.declared.node.Item.{Item}
use Rattle.cob_copybook_tree.specs.Items.{storage_kind}
use Rattle.cob_copybook_tree.specs.Lengths.{item_size}
use Rattle.cob_copybook_tree.specs.Storage.{is_read_whole}
use Rattle.cob_move_receive.specs.Copying.{is_of_characters}
use Rattle.cob_move_receive.specs.Sent.{Amount}
use Rattle.cob_move_receive.specs.Numbers.{ItemGives}

-- an alphabetic or alphanumeric item whose characters stand from the left
abbrev pub is_left_text : Item → Bool
is_left_text i = is_of_characters i.picture.category && not i.justified

-- Both items are numeric or numeric edited, and the second has at least as many digits on both sides of the point, and a sign where the first has one.
pub record IsWiderNumber (i j : Item) : Type 0 where
  pub number : shows_number i.picture.category ≡ true
  pub also : shows_number j.picture.category ≡ true
  pub behind : scale i.picture.positions ≤ℤ scale j.picture.positions
  pub before : digits_before i.picture ≤ℤ digits_before j.picture
  pub sign : IsTrue (signed i.picture.positions) → IsTrue (signed j.picture.positions)

-- Both items are alphabetic or alphanumeric without JUSTIFIED, and the second isn't shorter.
pub record IsLongerText (i j : Item) : Type 0 where
  pub text : is_left_text i ≡ true
  pub also : is_left_text j ≡ true
  pub size : item_size i ≤ item_size j

-- the second item loses nothing of what the first one holds
abbrev pub LosesNothing : Item → Item → Type 0
LosesNothing i j = IsWiderNumber i j ⊎ IsLongerText i j

-- where it is sent by this reading, the item is read as its picture says: by any zones, a binary one is
abbrev pub IsReadPictured : Reading → Item → Type 0
IsReadPictured Pictured i = Unit {0}
IsReadPictured Whole i = is_read_whole (storage_kind i) ≡ false
IsReadPictured AnyZones i = is_read_whole (storage_kind i) ≡ true
IsReadPictured WholeAnyZones i = ⊥

-- these bytes of the item represent the same value as those, or are the same where it is of characters
abbrev pub IsSameIn : Item → List ℕ → List ℕ → Type 0
IsSameIn i a b = MatchBool (shows_number i.picture.category) ((v : Amount) × ItemGives Pictured i a v × ItemGives Pictured i b v) (a ≡ b)
