-- The words of each clause.
use Rattle.std.specs.Prelude.{◌≡◌, ◌≢◌, ◌⊎◌, ℕ, Bool, true, false, List, [], ◌∷◌, ◌++◌, length, ◌<◌, Option, Some, None}
use Rattle.std.specs.List.{AllByRecursion}
use Rattle.cob_source.specs.Tokens.{Lexeme}
use Rattle.cob_source.specs.declared.token.TokenKind.TheVariants as kind
use Rattle.cob_copybook_clauses.specs.declared.term.WordClass.{WordClass}
use Rattle.cob_copybook_clauses.specs.declared.term.WordClass.TheVariants as term
use Rattle.cob_copybook_entry.specs.declared.kinds.Usage.{Usage}
use Rattle.cob_copybook_entry.specs.declared.kinds.UsageWord.TheVariants.{Names}
use Rattle.cob_copybook_entry.specs.Kinds.{usage_word}
use Rattle.cob_copybook_entry.specs.declared.kinds.Sign.{Sign}
use Rattle.cob_copybook_entry.specs.declared.kinds.Figurative.{Figurative}
use Rattle.cob_copybook_entry.specs.declared.kinds.Figurative.TheVariants as figurative
use Rattle.cob_copybook_clauses.specs.Terms.{word_class}
use Rattle.cob_copybook_clauses.specs.Names.{IsName}
use Rattle.cob_copybook_clauses.specs.Written.{WrittenValue, Word, Quoted, Figure, Repeated, WrittenName, WrittenOccurs, names_behind}

-- what one clause says
pub data Clause : Type 0 where
  Redefines : List ℕ → Clause
  Picture : List ℕ → Clause
  Stored : Usage → Clause
  Signed : Sign → Clause
  Occurs : WrittenOccurs → Clause
  Value : WrittenValue → Clause
  Justified : Clause
  Blank : Clause

-- an optional word, there or not
abbrev pub IsOptionalWord : WordClass → List Lexeme → Type 0
IsOptionalWord t [] = Unit {0}
IsOptionalWord t (w ∷ []) = word_class w ≡ t
IsOptionalWord t (w ∷ v ∷ ws) = ⊥

-- IS or ARE, or neither
abbrev pub IsOrAre : List Lexeme → Type 0
IsOrAre [] = Unit {0}
IsOrAre (w ∷ []) = (word_class w ≡ term.Is) ⊎ (word_class w ≡ term.Are)
IsOrAre (w ∷ v ∷ ws) = ⊥

-- a word with this text, reserved or not
pub record IsWord (text : List ℕ) (w : Lexeme) : Type 0 where
  pub word : w.kind ≡ kind.Word
  pub same : w.text ≡ text

-- a word with this text that isn't reserved
pub record IsFree (text : List ℕ) (w : Lexeme) : Type 0 where
  pub free : word_class w ≡ term.Plain
  pub same : w.text ≡ text

-- a word that is a name
abbrev pub IsNameWord : Lexeme → Type 0
IsNameWord w = (w.kind ≡ kind.Word) × IsName w.text

-- one name or more
abbrev pub AreNames : List Lexeme → Type 0
AreNames ws = (0 < length ws) × AllByRecursion IsNameWord ws

-- OF or IN and a name, as often as they stand
abbrev pub AreQualifiers : List Lexeme → Type 0
AreQualifiers [] = Unit {0}
AreQualifiers (w ∷ []) = ⊥
AreQualifiers (w ∷ n ∷ ws) = (word_class w ≡ term.Of) × IsNameWord n × AreQualifiers ws

-- a word that names this usage
pub record IsUsageWord (u : Usage) (w : Lexeme) : Type 0 where
  pub is : word_class w ≡ term.UsageName
  pub named : usage_word w.text ≡ Some (Names u)

-- where the sign stands, by LEADING or TRAILING
abbrev pub leading_of : WordClass → Option Bool
leading_of term.Leading = Some true
leading_of term.Trailing = Some false
leading_of _ = None

-- the figurative constant that a word is
abbrev pub figurative_of : WordClass → Option Figurative
figurative_of term.Space = Some figurative.Space
figurative_of term.Zero = Some figurative.Zero
figurative_of term.HighValue = Some figurative.HighValue
figurative_of term.LowValue = Some figurative.LowValue
figurative_of term.Quote = Some figurative.Quote
figurative_of _ = None

-- the word is that of this figurative constant
abbrev pub IsFigurativeWord : Figurative → Lexeme → Type 0
IsFigurativeWord f w = figurative_of (word_class w) ≡ Some f

-- nothing, or USAGE and perhaps IS, and the like
abbrev pub IsPrefix : WordClass → List Lexeme → Type 0
IsPrefix t [] = Unit {0}
IsPrefix t (w ∷ ws) = (word_class w ≡ t) × IsOptionalWord term.Is ws

-- SEPARATE and perhaps CHARACTER, or nothing
abbrev pub IsSeparatePhrase : Bool → List Lexeme → Type 0
IsSeparatePhrase false ws = ws ≡ []
IsSeparatePhrase true [] = ⊥
IsSeparatePhrase true (w ∷ ws) = (word_class w ≡ term.Separate) × IsOptionalWord term.Character ws

-- INDEXED BY and names, or nothing
abbrev pub AreIndexes : List Lexeme → Type 0
AreIndexes ws = (ws ≡ []) ⊎ ((k : Lexeme) × (by names : List Lexeme) × (word_class k ≡ term.Indexed) × IsOptionalWord term.By by × AreNames names × (ws ≡ k ∷ (by ++ names)))

-- ASCENDING or DESCENDING KEY IS and names, as often as it stands, and then the indexes
pub data AreKeys : List Lexeme → Type 0 where
  Indexes : {ws : List Lexeme} → AreIndexes ws → AreKeys ws
  Keyed : {ws more : List Lexeme} (k : Lexeme) (key is names : List Lexeme) → word_class k ≡ term.Ordered → IsOptionalWord term.Key key → IsOptionalWord term.Is is → AreNames names → ws ≡ k ∷ (key ++ (is ++ (names ++ more))) → AreKeys more → AreKeys ws

-- the word before TO, and TO, or nothing
abbrev pub IsLeast : Option (List ℕ) → List Lexeme → Type 0
IsLeast None ws = ws ≡ []
IsLeast (Some a) ws = (w to : Lexeme) × IsFree a w × (word_class to ≡ term.To) × (ws ≡ w ∷ (to ∷ []))

-- DEPENDING ON and a name with its qualifiers
pub record IsDependingOn (name : WrittenName) (ws : List Lexeme) : Type 0 where
  pub depending : Lexeme
  pub on : List Lexeme
  pub named : Lexeme
  pub behind : List Lexeme
  pub depends : word_class depending ≡ term.Depending
  pub noise : IsOptionalWord term.On on
  pub is : IsWord name.name named
  pub not_on : word_class named ≢ term.On
  pub qualified : AreQualifiers behind
  pub qualifiers : name.qualifiers ≡ names_behind behind
  pub words : ws ≡ depending ∷ (on ++ named ∷ behind)

-- the count of a table that varies; a table without a count has no word before TO
abbrev pub IsVaried : Option WrittenName → Option (List ℕ) → List Lexeme → Type 0
IsVaried None least ws = (least ≡ None) × (ws ≡ [])
IsVaried (Some name) least ws = IsDependingOn name ws

-- the words behind OCCURS: `[a TO] b [TIMES] [DEPENDING [ON] name] keys`
pub record IsTable (t : WrittenOccurs) (ws : List Lexeme) : Type 0 where
  pub least : List Lexeme
  pub most : Lexeme
  pub times : List Lexeme
  pub count : List Lexeme
  pub keys : List Lexeme
  pub least_is : IsLeast t.least least
  pub most_is : IsFree t.most most
  pub noise : IsOptionalWord term.Times times
  pub varied : IsVaried t.count t.least count
  pub keyed : AreKeys keys
  pub words : ws ≡ least ++ most ∷ (times ++ (count ++ keys))

-- ALL, or nothing
abbrev pub IsAll : List Lexeme → Type 0
IsAll ws = IsOptionalWord term.All ws

-- the words of a constant
abbrev pub IsConstant : WrittenValue → List Lexeme → Type 0
IsConstant (Word text) ws = (w : Lexeme) × IsFree text w × (ws ≡ w ∷ [])
IsConstant (Quoted text) ws = (w : Lexeme) × (w.kind ≡ kind.Literal) × (w.text ≡ text) × (ws ≡ w ∷ [])
IsConstant (Figure f) ws = (all : List Lexeme) × (w : Lexeme) × IsAll all × IsFigurativeWord f w × (ws ≡ all ++ w ∷ [])
IsConstant (Repeated text) ws = (all w : Lexeme) × (word_class all ≡ term.All) × (w.kind ≡ kind.Literal) × (w.text ≡ text) × (ws ≡ all ∷ (w ∷ []))

-- the words say this clause
abbrev pub SaysClause : Clause → List Lexeme → Type 0
SaysClause (Redefines n) ws = (k w : Lexeme) × (word_class k ≡ term.Redefines) × IsWord n w × (ws ≡ k ∷ (w ∷ []))
SaysClause (Picture p) ws = (k : Lexeme) × (is : List Lexeme) × (w : Lexeme) × (word_class k ≡ term.Picture) × IsOptionalWord term.Is is × IsWord p w × (word_class w ≢ term.Is) × (ws ≡ k ∷ (is ++ w ∷ []))
SaysClause (Stored u) ws = (before : List Lexeme) × (w : Lexeme) × IsPrefix term.Usage before × IsUsageWord u w × (ws ≡ before ++ w ∷ [])
SaysClause (Signed s) ws = (before : List Lexeme) × (w : Lexeme) × (separate : List Lexeme) × IsPrefix term.Sign before × (leading_of (word_class w) ≡ Some s.leading) × IsSeparatePhrase s.separate separate × (ws ≡ before ++ w ∷ separate)
SaysClause (Occurs t) ws = (k : Lexeme) × (more : List Lexeme) × (word_class k ≡ term.Occurs) × IsTable t more × (ws ≡ k ∷ more)
SaysClause (Value c) ws = (k : Lexeme) × (is more : List Lexeme) × (word_class k ≡ term.Value) × IsOrAre is × IsConstant c more × (ws ≡ k ∷ (is ++ more))
SaysClause Justified ws = (k : Lexeme) × (right : List Lexeme) × (word_class k ≡ term.Justified) × IsOptionalWord term.Right right × (ws ≡ k ∷ right)
SaysClause Blank ws = (k : Lexeme) × (when : List Lexeme) × (w : Lexeme) × (word_class k ≡ term.Blank) × IsOptionalWord term.When when × (word_class w ≡ term.Zero) × (ws ≡ k ∷ (when ++ w ∷ []))
