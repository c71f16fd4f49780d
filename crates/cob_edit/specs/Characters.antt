-- Characters moved to an edited item that holds characters.
use Rattle.std.specs.Prelude.{◌≡◌, ℕ, ◌<◌, List, [], ◌∷◌, length, take, drop, slice_index, slice_index_or, count_by, if◌then◌else◌}
use Rattle.cob_cp037.specs.Named.{space_byte}
use Rattle.cob_picture.specs.declared.symbol.Symbol.TheVariants.{A}
use Rattle.cob_picture.specs.Counts.{is_character}
use Rattle.cob_picture.specs.declared.position.PositionRole.TheVariants.{Character}
use Rattle.cob_picture.specs.declared.position.Position.{Position}
use Rattle.cob_edit.specs.Pictured.{insertion_byte}

-- the position with this number
abbrev pub position : List Position → ℕ → Position
position ps j = slice_index_or ps j (record { symbol = A; role = Character })

-- The byte of place j: at a character place the sender's byte whose number is the count of character places before, or a space where the
-- sender has none left; at every other place the insertion.
abbrev pub character_at : List Position → List ℕ → ℕ → ℕ
character_at ps sender j =
    if is_character (position ps j).role
    then slice_index_or sender (count_by (λ p. is_character p.role) (take j ps)) space_byte
    else insertion_byte (position ps j).symbol

-- each place of the item holds its byte
pub record HasCharacters (ps : List Position) (sender bytes : List ℕ) : Type 0 where
  pub one_length : length bytes ≡ length ps
  pub each : (j : ℕ) → j < length ps → slice_index bytes j ≡ character_at ps sender j

-- the same from the front on, place by place
abbrev pub characters_from : List Position → List ℕ → List ℕ
characters_from [] sender = []
characters_from (p ∷ ps) sender =
    if is_character p.role
    then slice_index_or sender 0 space_byte ∷ characters_from ps (drop 1 sender)
    else insertion_byte p.symbol ∷ characters_from ps sender

-- characters have one text
abbrev pub OneSpelling : Type 0
OneSpelling = (ps : List Position) (sender x y : List ℕ) → HasCharacters ps sender x → HasCharacters ps sender y → x ≡ y
