-- The condition-names of a copybook: which entries they stand behind, and which values they have.
use Rattle.std.specs.Prelude.{◌≡◌, ℕ, ◌==◌, ◌+◌, if◌then◌else◌, Bool, true, false, List, [], ◌∷◌, Option, Some, None, map}
use Rattle.cob_source.specs.Tokens.{Lexeme}
use Rattle.cob_source.specs.Words.{AreWordsOf}
use Rattle.cob_copybook_entry.specs.Described.{PlainEntry, PlainValue, plain_value}
use Rattle.cob_copybook_clauses.specs.Entries.{is_condition, sentences}
use Rattle.cob_copybook_entries.specs.Books.{AreEntriesOf}
use Rattle.cob_copybook_entries.specs.Meaning.{IsConstantOf}
use Rattle.cob_copybook_conditions.specs.Written.{WrittenConditionName, WrittenSpan, One as WrittenOne, FromTo as WrittenFromTo}
use Rattle.cob_copybook_conditions.specs.Entries.{IsConditionName}
use Rattle.cob_copybook_conditions.specs.declared.spans.Span.{Span}
use Rattle.cob_copybook_conditions.specs.declared.spans.Span.TheVariants as span
use Rattle.cob_copybook_conditions.specs.declared.names.ConditionName.{ConditionName}

-- one value, or all from one to another
pub data PlainSpan : Type 0 where
  One : PlainValue → PlainSpan
  FromTo : PlainValue → PlainValue → PlainSpan

-- a condition-name: the number of the entry that it stands behind, its name, and its values
pub record PlainConditionName : Type 0 where
  pub entry : ℕ
  pub name : List ℕ
  pub values : List PlainSpan

-- one value or two, without where they lie in memory
abbrev pub plain_span : Span → PlainSpan
plain_span (span.One v) = One (plain_value v)
plain_span (span.FromTo v w) = FromTo (plain_value v) (plain_value w)

-- a condition-name, likewise
abbrev pub plain_condition_name : ConditionName → PlainConditionName
plain_condition_name n = record { entry = n.entry; name = n.name; values = map plain_span n.values.items }

-- condition-names, likewise
abbrev pub plain_condition_names : List ConditionName → List PlainConditionName
plain_condition_names ns = map plain_condition_name ns

-- what one value means, or two
abbrev pub IsSpanOf : WrittenSpan → PlainSpan → Type 0
IsSpanOf (WrittenOne v) (One c) = IsConstantOf v c
IsSpanOf (WrittenFromTo v w) (FromTo c d) = IsConstantOf v c × IsConstantOf w d
IsSpanOf w s = ⊥

-- what values one behind another mean
abbrev pub AreSpansOf : List WrittenSpan → List PlainSpan → Type 0
AreSpansOf [] [] = Unit {0}
AreSpansOf (w ∷ ws) (s ∷ ss) = IsSpanOf w s × AreSpansOf ws ss
AreSpansOf ws ss = ⊥

-- the words are those of a level 88 entry behind the entry with this number, and mean this
pub record IsConditionNameOf (last : ℕ) (ws : List Lexeme) (n : PlainConditionName) : Type 0 where
  pub written : WrittenConditionName
  pub is : IsConditionName ws written
  pub behind : n.entry ≡ last
  pub name : n.name ≡ written.name
  pub values : AreSpansOf written.values n.values

-- A level 88 entry behind the entry with this number says this name; or none, where what stands behind VALUE is no list of values, or one of them is none that a
-- constant may be. Such an entry is read past.
abbrev pub SaysName : ℕ → List Lexeme → Option PlainConditionName → Type 0
SaysName last ws None = (n : PlainConditionName) → IsConditionNameOf last ws n → ⊥
SaysName last ws (Some n) = IsConditionNameOf last ws n

-- a level 88 entry says its name, a data entry none
abbrev pub SaysBy : Bool → ℕ → List Lexeme → Option PlainConditionName → Type 0
SaysBy true last ws said = SaysName last ws said
SaysBy false last ws said = said ≡ None

-- the number of the last data entry, once this one is read
abbrev pub last_entry_by : Bool → ℕ → ℕ
last_entry_by true last = last
last_entry_by false last = last + 1

-- the names with the one that is said, if one is
abbrev pub with_said : Option PlainConditionName → List PlainConditionName → List PlainConditionName
with_said None ns = ns
with_said (Some n) ns = n ∷ ns

-- Sentences behind the data entry with this number say these names, in order. A level 88 entry belongs to the last data entry before it.
abbrev pub AreNamesBehind : ℕ → List (List Lexeme) → List PlainConditionName → Type 0
AreNamesBehind last [] ns = ns ≡ []
AreNamesBehind last (s ∷ ss) ns =
    (said : Option PlainConditionName) × (more : List PlainConditionName)
    × SaysBy (is_condition s) last s said × AreNamesBehind (last_entry_by (is_condition s) last) ss more × (ns ≡ with_said said more)

-- sentences, of which the first is the data entry with this number, say these names
abbrev pub AreNamesIn : ℕ → List (List Lexeme) → List PlainConditionName → Type 0
AreNamesIn first [] ns = ns ≡ []
AreNamesIn first (s ∷ ss) ns = AreNamesBehind first ss ns

-- the number of the text's first data entry: 0 for the record, and 1 where the text doesn't begin with it, behind a record that the text doesn't name
abbrev pub first_number : List PlainEntry → ℕ
first_number [] = 1
first_number (d ∷ ds) = if d.level == 1 then 0 else 1

-- The text's condition-names, in order.
pub record AreConditionNamesOf (text : List ℕ) (ns : List PlainConditionName) : Type 0 where
  pub words : List Lexeme
  pub entries : List PlainEntry
  pub are_words : AreWordsOf text words
  pub are_entries : AreEntriesOf words entries
  pub said : AreNamesIn (first_number entries) (sentences words).ended ns
