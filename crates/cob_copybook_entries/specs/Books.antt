-- The entries that the words of a text are, and the rules on words that a text breaks.
use Rattle.std.specs.Prelude.{◌≡◌, ◌≢◌, ◌⊎◌, ℕ, ◌<◌, ◌≤◌, Bool, true, false, not, List, [], ◌∷◌, length, count_by, Option, Some, None, option_map}
use Rattle.cob_source.specs.Tokens.{Lexeme}
use Rattle.cob_picture.specs.Pictures.{BreaksPictureRule as IsBrokenPicture}
use Rattle.cob_limits.specs.Limits.{longest_literal, most_digits, most_entries}
use Rattle.cob_decimal.specs.Literals.{Literal, AreDigits}
use Rattle.cob_copybook_clauses.specs.Names.{IsName}
use Rattle.cob_copybook_clauses.specs.Written.{WrittenValue, Word, Quoted, Repeated, WrittenOccurs, WrittenEntry}
use Rattle.cob_copybook_clauses.specs.Entries.{IsWritten, IsCondition, is_condition, IsLeftOut, sentences}
use Rattle.cob_copybook_entry.specs.declared.fault.BookRule.{BookRule}
use Rattle.cob_copybook_entry.specs.declared.fault.BookRule.TheVariants as rule
use Rattle.cob_copybook_entry.specs.Described.{PlainEntry}
use Rattle.cob_copybook_entries.specs.Meaning.{EntryMeans, IsIntegerText, AreNumbers}
use Rattle.cob_copybook_entries.specs.Parts.{IsLiteralOf, count_digits}

-- nothing that is left out by name stands in the entry
abbrev pub HasNoLeftOut : List Lexeme → Type 0
HasNoLeftOut s = (text : List ℕ) → IsLeftOut text s → ⊥

-- a data entry means this
pub record IsEntry (s : List Lexeme) (d : PlainEntry) : Type 0 where
  pub written : WrittenEntry
  pub is : IsWritten s written
  pub means : EntryMeans written d

-- a level 88 entry names a value
abbrev pub IsConditionEntry : List Lexeme → Type 0
IsConditionEntry s = (name : List ℕ) × IsCondition s name × IsName name

-- a level 88 entry adds nothing to the entries behind it, a data entry itself
abbrev pub IsSentence : Bool → List Lexeme → List PlainEntry → List PlainEntry → Type 0
IsSentence true s ds more = IsConditionEntry s × (ds ≡ more)
IsSentence false s ds more = (d : PlainEntry) × IsEntry s d × (ds ≡ d ∷ more)

-- each sentence is a data entry, or a level 88 entry, which adds nothing
abbrev pub AreDescribed : List (List Lexeme) → List PlainEntry → Type 0
AreDescribed [] ds = ds ≡ []
AreDescribed (s ∷ ss) ds = HasNoLeftOut s × ((more : List PlainEntry) × IsSentence (is_condition s) s ds more × AreDescribed ss more)

-- a data entry comes first
abbrev pub BeginsWithData : List (List Lexeme) → Type 0
BeginsWithData [] = ⊥
BeginsWithData (s ∷ ss) = is_condition s ≡ false

-- The words are these data entries: each ends at a period, the first of all is one, and there are at most 2,000.
pub record AreEntriesOf (ws : List Lexeme) (ds : List PlainEntry) : Type 0 where
  pub ended : (sentences ws).open_end ≡ []
  pub begins : BeginsWithData (sentences ws).ended
  pub entries : AreDescribed (sentences ws).ended ds
  pub few : length ds ≤ most_entries

-- a word that is no number stands in a number's place
abbrev pub BreaksNumber : WrittenOccurs → Type 0
BreaksNumber t = (AreDigits t.most → ⊥) ⊎ ((text : List ℕ) × (t.least ≡ Some text) × (AreDigits text → ⊥))

-- a word that is no number stands in a number's place of an OCCURS clause, if there is one
abbrev pub BreaksNumbers : Option WrittenOccurs → Type 0
BreaksNumbers None = ⊥
BreaksNumbers (Some t) = BreaksNumber t

-- a VALUE's word is no numeric literal, of any number of digits
abbrev pub BreaksConstant : Option WrittenValue → Type 0
BreaksConstant (Some (Word text)) = (l : Literal) → IsLiteralOf l text → ⊥
BreaksConstant _ = ⊥

-- a VALUE's numeric literal has too many digits; a quoted one is too long, or is ALL with an empty one
abbrev pub BreaksValue : Option WrittenValue → Type 0
BreaksValue (Some (Word text)) = (l : Literal) × IsLiteralOf l text × (most_digits < count_digits l)
BreaksValue (Some (Quoted text)) = longest_literal < length text
BreaksValue (Some (Repeated text)) = (length text ≡ 0) ⊎ (longest_literal < length text)
BreaksValue _ = ⊥

-- the numbers of an OCCURS clause are out of bounds
abbrev pub BreaksTable : Option WrittenOccurs → Type 0
BreaksTable None = ⊥
BreaksTable (Some t) = (BreaksNumber t → ⊥) × ((least most : ℕ) → AreNumbers t least most → ⊥)

-- what stands in a name's place isn't one
abbrev pub IsNoName : Option (List ℕ) → Type 0
IsNoName None = ⊥
IsNoName (Some text) = IsName text → ⊥

-- the name of a table's count, if it has one
abbrev pub count_name : Option WrittenOccurs → Option (List ℕ)
count_name None = None
count_name (Some t) = option_map (λ c. c.name) t.count

-- the entry as it is written breaks the rule
abbrev pub BreaksEntry : BookRule → WrittenEntry → Type 0
BreaksEntry rule.Grammar w = ((n : ℕ) → IsIntegerText 2 w.level n → ⊥) ⊎ (BreaksNumbers w.clauses.occurs ⊎ BreaksConstant w.clauses.value)
BreaksEntry (rule.Picture f) w = (text : List ℕ) × (w.clauses.picture ≡ Some text) × IsBrokenPicture f text
BreaksEntry rule.Table w = BreaksTable w.clauses.occurs
BreaksEntry rule.Value w = BreaksValue w.clauses.value
BreaksEntry rule.Name w = IsNoName w.name ⊎ (IsNoName w.clauses.redefines ⊎ IsNoName (count_name w.clauses.occurs))
BreaksEntry r w = ⊥

-- a level 88 entry breaks the rule: it is none, or its name is no name
abbrev pub BreaksCondition : BookRule → List Lexeme → Type 0
BreaksCondition rule.Grammar s = (name : List ℕ) → IsCondition s name → ⊥
BreaksCondition rule.Name s = (name : List ℕ) × IsCondition s name × (IsName name → ⊥)
BreaksCondition r s = ⊥

-- a data entry breaks the rule: it isn't in the grammar, or it is, and breaks it as it is written
abbrev pub BreaksData : BookRule → List Lexeme → Type 0
BreaksData rule.Grammar s = ((w : WrittenEntry) → IsWritten s w → ⊥) ⊎ ((w : WrittenEntry) × IsWritten s w × BreaksEntry rule.Grammar w)
BreaksData r s = (w : WrittenEntry) × IsWritten s w × BreaksEntry r w

-- a level 88 entry, or a data entry, breaks the rule
abbrev pub BreaksBy : Bool → BookRule → List Lexeme → Type 0
BreaksBy true r s = BreaksCondition r s
BreaksBy false r s = BreaksData r s

-- a sentence breaks the rule; what is left out by name is told as such
abbrev pub BreaksSentence : BookRule → List Lexeme → Type 0
BreaksSentence (rule.LeftOut word) s = IsLeftOut word.bytes s
BreaksSentence r s = HasNoLeftOut s × BreaksBy (is_condition s) r s

-- one of the sentences does
abbrev pub OneBreaks : BookRule → List (List Lexeme) → Type 0
OneBreaks r [] = ⊥
OneBreaks r (s ∷ ss) = BreaksSentence r s ⊎ OneBreaks r ss

-- a level 88 entry comes first
abbrev pub BeginsWithCondition : List (List Lexeme) → Type 0
BeginsWithCondition [] = ⊥
BeginsWithCondition (s ∷ ss) = is_condition s ≡ true

-- how many data entries there are
abbrev pub data_entries : List (List Lexeme) → ℕ
data_entries ss = count_by (λ s. not (is_condition s)) ss

-- The words of a text break the rule: none are there; they don't end at a period, or a level 88 entry comes first; there are too
-- many entries; or one of the sentences breaks it. No rule on trees is broken by words.
abbrev pub BreaksEntryRule : BookRule → List Lexeme → Type 0
BreaksEntryRule rule.Memory ws = Unit {0}
BreaksEntryRule rule.NoEntry ws = ws ≡ []
BreaksEntryRule rule.TooMany ws = most_entries < data_entries (sentences ws).ended
BreaksEntryRule rule.Grammar ws = ((sentences ws).open_end ≢ []) ⊎ (BeginsWithCondition (sentences ws).ended ⊎ OneBreaks rule.Grammar (sentences ws).ended)
BreaksEntryRule r ws = OneBreaks r (sentences ws).ended
