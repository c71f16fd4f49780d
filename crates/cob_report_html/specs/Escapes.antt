-- How the characters of a text are written in HTML, and read.
use Rattle.std.specs.Prelude.{◌≢◌, ◌==◌, ℕ, List, [], ◌∷◌, ◌++◌, if◌then◌else◌}
use Rattle.std.specs.List.{flat_map}
use lib.Chars.{codes}

-- the four characters that have a meaning of their own in HTML
pub data Mark : Type 0 where
  Less : Mark
  Greater : Mark
  Ampersand : Mark
  Quotation : Mark

-- the character of a mark
abbrev pub character_of : Mark → ℕ
character_of Less = 60
character_of Greater = 62
character_of Ampersand = 38
character_of Quotation = 34

-- the escape that stands for it
abbrev pub escape_of : Mark → List ℕ
escape_of Less = codes "&lt;"
escape_of Greater = codes "&gt;"
escape_of Ampersand = codes "&amp;"
escape_of Quotation = codes "&quot;"

-- how a character is written: a mark as its escape, and each other one as it is
abbrev pub escaped_character : ℕ → List ℕ
escaped_character character =
    if character == 60 then escape_of Less else
    (if character == 62 then escape_of Greater else
    (if character == 38 then escape_of Ampersand else
    (if character == 34 then escape_of Quotation else character ∷ [])))

-- how the characters of a text are written, one behind another
abbrev pub written_text : List ℕ → List ℕ
written_text text = flat_map escaped_character text

-- a character that is no mark
pub record IsUnmarked (character : ℕ) : Type 0 where
  pub other : (mark : Mark) → character ≢ character_of mark

-- What is read where characters are written: each plain character is itself, and each escape is its mark. Nothing else is read, so that what
-- is written holds no mark but the first one of an escape.
pub data ReadsAs : List ℕ → List ℕ → Type 0 where
  Nothing : ReadsAs [] []
  Plain : (character : ℕ) (shown text : List ℕ) → IsUnmarked character → ReadsAs shown text → ReadsAs (character ∷ shown) (character ∷ text)
  Escape : (mark : Mark) (shown text : List ℕ) → ReadsAs shown text → ReadsAs (escape_of mark ++ shown) (character_of mark ∷ text)
