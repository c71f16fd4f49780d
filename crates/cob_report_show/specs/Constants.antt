-- How constants are listed: as a source text writes them.
use Rattle.std.specs.Prelude.{ℕ, ◌-◌, ◌==◌, if◌then◌else◌, Bool, true, false, List, [], ◌∷◌, ◌++◌, length, take, drop, codes, flat_map}
use Rattle.cob_decimal.specs.Literals.{characters, digits_behind_point}
use Rattle.cob_copybook_entry.specs.declared.kinds.Figurative.{Figurative}
use Rattle.cob_copybook_entry.specs.declared.kinds.Figurative.TheVariants.{Space, Zero, HighValue, LowValue, Quote}
use Rattle.cob_copybook_entry.specs.Described.{PlainValue, Numeric, Quoted, Figure, Repeated}

-- the sign of a number, where one is written
abbrev pub written_sign : (signed negative : Bool) → List ℕ
written_sign false negative = []
written_sign true false = 43 ∷ []
written_sign true true = 45 ∷ []

-- digits, of which so many stand behind a point; where there are none such there is no point
abbrev pub pointed : ℕ → List ℕ → List ℕ
pointed places ds =
    if places == 0 then characters ds else characters (take (length ds - places) ds) ++ 46 ∷ characters (drop (length ds - places) ds)

-- the word of a figurative constant
abbrev pub figurative_word : Figurative → List ℕ
figurative_word Space = codes "SPACE"
figurative_word Zero = codes "ZERO"
figurative_word HighValue = codes "HIGH-VALUE"
figurative_word LowValue = codes "LOW-VALUE"
figurative_word Quote = codes "QUOTE"

-- a character of a quoted literal: a quotation mark stands twice
abbrev pub literal_character : ℕ → List ℕ
literal_character c = if c == 34 then 34 ∷ 34 ∷ [] else c ∷ []

-- characters in quotation marks
abbrev pub in_quotes : List ℕ → List ℕ
in_quotes cs = 34 ∷ (flat_map literal_character cs ++ 34 ∷ [])

-- A constant: a number with its sign where one is written, its zeros and its point; a quoted literal; the word of a figurative constant; ALL and a quoted literal.
abbrev pub constant_text : PlainValue → List ℕ
constant_text (Numeric signed negative ds scale) = written_sign signed negative ++ pointed (digits_behind_point scale) ds
constant_text (Quoted cs) = in_quotes cs
constant_text (Figure f) = figurative_word f
constant_text (Repeated cs) = codes "ALL " ++ in_quotes cs
