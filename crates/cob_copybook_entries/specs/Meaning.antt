-- What the texts of an entry mean.
use Rattle.std.specs.Prelude.{◌≡◌, ℕ, ◌<◌, ◌≤◌, List, length, Option, Some, None, is_some, option_map}
use Rattle.cob_decimal.specs.Decimal.{number_of}
use Rattle.cob_decimal.specs.Literals.{Literal, IsLiteral, literal_text, IsValueOf, AreDigits, digits_in}
use Rattle.cob_picture.specs.Pictures.{IsPictureOf}
use Rattle.cob_copybook_clauses.specs.declared.parts.OccursClause.{OccursClause}
use Rattle.cob_copybook_clauses.specs.Names.{IsName}
use Rattle.cob_copybook_clauses.specs.Written.{WrittenValue, Word, Quoted as QuotedText, Figure as FigureWord, Repeated as RepeatedText, WrittenName, WrittenOccurs, WrittenEntry, written_occurs}
use Rattle.cob_copybook_entry.specs.declared.entry.Qualified.{Qualified}
use Rattle.cob_limits.specs.Limits.{longest_literal}
use Rattle.cob_copybook_entry.specs.Described.{PlainValue, Numeric, Quoted, Figure, Repeated, PlainOccurs, Fixed, Varying, PlainEntry}

-- a whole number without a sign, in so many digits at most
pub record IsIntegerText (most : ℕ) (text : List ℕ) (n : ℕ) : Type 0 where
  pub digits : AreDigits text
  pub some : 0 < length text
  pub few : length text ≤ most
  pub value : n ≡ number_of (digits_in text)

-- the name of a count with its qualifiers, as they are written
abbrev pub IsQualifiedOf : WrittenName → Qualified → Type 0
IsQualifiedOf written q = IsName written.name × (q.name ≡ written.name) × (q.qualifiers.items ≡ written.qualifiers)

-- the number before TO; without it the least number is 1
abbrev pub IsLeastOf : Option (List ℕ) → ℕ → Type 0
IsLeastOf None n = n ≡ 1
IsLeastOf (Some text) n = IsIntegerText 9 text n

-- an entry that doesn't vary occurs at least once; one that does, at least as often as the least number says, and that is below the
-- greatest
abbrev pub IsRange : Option WrittenName → ℕ → ℕ → Type 0
IsRange None least most = 0 < most
IsRange (Some name) least most = least < most

-- the numbers of an OCCURS clause: each of 1 to 9 digits, and within their bounds
pub record AreNumbers (t : WrittenOccurs) (least most : ℕ) : Type 0 where
  pub least_is : IsLeastOf t.least least
  pub most_is : IsIntegerText 9 t.most most
  pub range : IsRange t.count least most

-- what an OCCURS clause with a count, or without one, means
abbrev pub IsTimesBy : Option WrittenName → ℕ → ℕ → PlainOccurs → Type 0
IsTimesBy None least most times = times ≡ Fixed most
IsTimesBy (Some name) least most times = IsName name.name × (times ≡ Varying least most name.name name.qualifiers)

-- what an OCCURS clause means
pub record IsOccursOf (t : WrittenOccurs) (times : PlainOccurs) : Type 0 where
  pub least : ℕ
  pub most : ℕ
  pub numbers : AreNumbers t least most
  pub is : IsTimesBy t.count least most times

-- the characters of a quoted literal aren't too many
abbrev pub IsShortLiteral : List ℕ → Type 0
IsShortLiteral text = length text ≤ longest_literal

-- what the constant of a VALUE clause means
abbrev pub IsConstantOf : WrittenValue → PlainValue → Type 0
IsConstantOf (Word text) (Numeric signed negative digits scale) = (l : Literal) × IsLiteral l × (text ≡ literal_text l) × (signed ≡ is_some l.sign) × IsValueOf l negative digits scale
IsConstantOf (QuotedText text) (Quoted characters) = IsShortLiteral text × (text ≡ characters)
IsConstantOf (FigureWord f) (Figure g) = f ≡ g
IsConstantOf (RepeatedText text) (Repeated characters) = (0 < length text) × IsShortLiteral text × (text ≡ characters)
IsConstantOf w c = ⊥

-- a clause that isn't written isn't there; one that is, means this
abbrev pub IsOption : {A B : Type 0} → (A → B → Type 0) → Option A → Option B → Type 0
IsOption means None None = Unit {0}
IsOption means (Some a) (Some b) = means a b
IsOption means None (Some b) = ⊥
IsOption means (Some a) None = ⊥

-- an OCCURS clause of the code that isn't written isn't there; one that is, means this
abbrev pub IsTimesOf : Option OccursClause → Option PlainOccurs → Type 0
IsTimesOf table t = IsOption IsOccursOf (option_map written_occurs table) t

-- a text that is a name means itself
abbrev pub IsNameText : List ℕ → List ℕ → Type 0
IsNameText text name = IsName text × (text ≡ name)

-- what an entry as it is written means
pub record EntryMeans (w : WrittenEntry) (d : PlainEntry) : Type 0 where
  pub level : IsIntegerText 2 w.level d.level
  pub name : IsOption IsNameText w.name d.name
  pub redefines : IsOption IsNameText w.clauses.redefines d.redefines
  pub picture : IsOption IsPictureOf w.clauses.picture d.picture
  pub usage : w.clauses.usage ≡ d.usage
  pub sign : w.clauses.sign ≡ d.sign
  pub occurs : IsOption IsOccursOf w.clauses.occurs d.occurs
  pub value : IsOption IsConstantOf w.clauses.value d.value
  pub justified : w.clauses.justified ≡ d.justified
  pub blank : w.clauses.blank ≡ d.blank
