-- Edited items: the places of a picture, and the text that a picture gives a number.
use Rattle.std.specs.Prelude.{◌≡◌, ℕ, ◌<◌, Bool, ◌↔◌, List, [], ◌∷◌, length, ℤ, IsTrue, if◌then◌else◌}
use Rattle.std.specs.List.{flat_map}
use Rattle.cob_cp037.specs.Named.{comma_byte, slash_byte, space_byte, zero_byte}
use Rattle.cob_decimal.specs.Decimal.{IsDigits, number_of, aligned}
use Rattle.cob_picture.specs.declared.symbol.Symbol.{Symbol}
use Rattle.cob_picture.specs.declared.symbol.Symbol.TheVariants.{V, Zero, Slash, Comma, Star, Plus, Minus, Credit, Debit}
use Rattle.cob_picture.specs.declared.position.PositionRole.{PositionRole}
use Rattle.cob_picture.specs.declared.position.PositionRole.TheVariants as role
use Rattle.cob_picture.specs.declared.position.Position.{Position}
use Rattle.cob_picture.specs.Positions.{PlainPicture, is}
use Rattle.cob_picture.specs.Counts.{digits, scale}
use Rattle.cob_edit.specs.declared.place.Mark.{Mark}
use Rattle.cob_edit.specs.declared.place.Mark.TheVariants.{Currency, PlusOrMinus, SpaceOrMinus, CreditC, CreditR, DebitD, DebitB}
use Rattle.cob_edit.specs.declared.place.Fill.{Fill}
use Rattle.cob_edit.specs.declared.place.Fill.TheVariants.{Space, Asterisk}
use Rattle.cob_edit.specs.declared.place.EditedPlace.{EditedPlace}
use Rattle.cob_edit.specs.declared.place.EditedPlace.TheVariants as place
use Rattle.cob_edit.specs.Editing.{IsText, shows_sign}

-- the byte of an insertion, in code page 037: a space for B, and itself for 0, the stroke and the comma
abbrev pub insertion_byte : Symbol → ℕ
insertion_byte Zero = zero_byte
insertion_byte Slash = slash_byte
insertion_byte Comma = comma_byte
insertion_byte _ = space_byte

-- the mark of a sign or a currency sign that takes one place
abbrev pub mark_of : Symbol → Mark
mark_of Plus = PlusOrMinus
mark_of Minus = SpaceOrMinus
mark_of _ = Currency

-- what stands for a suppressed zero
abbrev pub fill_of : Symbol → Fill
fill_of Star = Asterisk
fill_of _ = Space

-- the places of a sign or a currency sign that doesn't float: CR and DB have two
abbrev pub fixed_places : Symbol → List EditedPlace
fixed_places Credit = place.Fixed CreditC ∷ place.Fixed CreditR ∷ []
fixed_places Debit = place.Fixed DebitD ∷ place.Fixed DebitB ∷ []
fixed_places s = place.Fixed (mark_of s) ∷ []

-- The places of a position: one, but two for CR and DB. S and P have none, and V has one without a byte.
abbrev pub position_places : PositionRole → Symbol → List EditedPlace
position_places role.Character s = place.Inserted space_byte ∷ []
position_places role.Insertion s = place.Inserted (insertion_byte s) ∷ []
position_places role.DecimalPoint s = place.Point ∷ []
position_places role.Digit s = place.Digit ∷ []
position_places role.Suppressed s = place.Suppressed (fill_of s) ∷ []
position_places role.Floating s = place.Floating ∷ []
position_places role.FirstFloating s = place.First (mark_of s) ∷ []
position_places role.FixedSign s = fixed_places s
position_places role.FixedCurrency s = fixed_places s
position_places role.NoByte s = if is V s then place.AssumedPoint ∷ [] else []

-- the places of an item
abbrev pub places : List Position → List EditedPlace
places ps = flat_map (λ p. position_places p.role p.symbol) ps

-- The bytes are the text that the picture gives the number whose digits are these, with this scale. The number is first put into the
-- digits and the scale of the picture. It is negative where it was so, the picture shows a sign, and what is left isn't 0. The text is
-- that of the sign and the digits that are kept.
pub record IsEdited (picture : PlainPicture) (blank negative : Bool) (sent : List ℕ) (from : ℤ) (bytes : List ℕ) : Type 0 where
  pub kept : List ℕ
  pub minus : Bool
  pub valid : IsDigits kept
  pub count : length kept ≡ digits picture.positions
  pub value : number_of kept ≡ aligned (number_of sent) from (scale picture.positions) (digits picture.positions)
  pub sign : IsTrue minus ↔ (IsTrue negative × IsTrue (shows_sign (places picture.positions)) × (0 < number_of kept))
  pub text : IsText (places picture.positions) blank minus kept bytes

-- The sign and the digits are those of a number that the picture can show: as many digits as it has, and a minus only where it shows a
-- sign and the number isn't 0. The number's scale is the picture's.
pub record IsInRange (picture : PlainPicture) (negative : Bool) (ds : List ℕ) : Type 0 where
  pub valid : IsDigits ds
  pub count : length ds ≡ digits picture.positions
  pub nonzero : IsTrue negative → 0 < number_of ds
  pub sign : IsTrue negative → IsTrue (shows_sign (places picture.positions))

-- every number has one text
abbrev pub OneEditedText : Type 0
OneEditedText =
    (picture : PlainPicture) (blank negative : Bool) (sent : List ℕ) (from : ℤ) (x y : List ℕ)
    → IsEdited picture blank negative sent from x
    → IsEdited picture blank negative sent from y
    → x ≡ y

-- every number in range has a text
abbrev pub SomeText : Type 0
SomeText =
    (picture : PlainPicture) (blank negative : Bool) (ds : List ℕ)
    → IsInRange picture negative ds
    → (bytes : List ℕ) × IsEdited picture blank negative ds (scale picture.positions) bytes

-- every text is that of one number in range at most
abbrev pub OneEditedNumber : Type 0
OneEditedNumber =
    (picture : PlainPicture) (blank m n : Bool) (ds es bytes : List ℕ)
    → IsInRange picture m ds
    → IsInRange picture n es
    → IsEdited picture blank m ds (scale picture.positions) bytes
    → IsEdited picture blank n es (scale picture.positions) bytes
    → (m ≡ n) × (ds ≡ es)
