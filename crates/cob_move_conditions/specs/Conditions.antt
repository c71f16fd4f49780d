-- The words of conditions, as ANSI X3.23-1985 has them (Nucleus: conditional expressions).
use Rattle.std.specs.Prelude.{◌≡◌, ◌⊎◌, ℕ, ◌≤◌, Bool, true, false, List, [], ◌∷◌, ◌++◌, length, Option, Some, None}
use Rattle.std.specs.declared.cmp.Ordering.TheVariants.{Less, Equal, Greater}
use Rattle.cob_source.specs.Tokens.{Lexeme}
use Rattle.cob_copybook_clauses.specs.declared.term.WordClass.TheVariants as term
use Rattle.cob_copybook_clauses.specs.Terms.{word_class}
use Rattle.cob_copybook_clauses.specs.Clauses.{IsOptionalWord}
use Rattle.cob_move_condition.specs.declared.class.Class.TheVariants as class
use Rattle.cob_move_statements.specs.Written.{WrittenSender, SentReference}
use Rattle.cob_move_conditions.specs.declared.phrases.Quality.{Quality}
use Rattle.cob_move_conditions.specs.declared.phrases.Quality.TheVariants as quality
use Rattle.cob_move_conditions.specs.declared.relations.Relation.{Relation}
use Rattle.cob_move_conditions.specs.declared.words.ConditionWord.{ConditionWord}
use Rattle.cob_move_conditions.specs.declared.words.ConditionWord.TheVariants as word
use Rattle.cob_move_conditions.specs.Words.{IsConditionWord, condition_word}
use Rattle.cob_move_conditions.specs.Operands.{IsWrittenOperand}
use Rattle.cob_move_conditions.specs.Relations.{IsRelationBy}
use Rattle.cob_move_conditions.specs.Written.{WrittenCondition, WrittenTest, Relates, RelatesTo, StandsAlone, Has, Simple, InBrackets, BehindNot, WithAnd, WithOr}

-- ---- relations

-- a relation and the operand behind it; IS may stand before it
pub record IsRelated (r : Relation) (s : WrittenSender) (ws : List Lexeme) : Type 0 where
  pub is : List Lexeme
  pub relation : List Lexeme
  pub operand : List Lexeme
  pub noise : IsOptionalWord term.Is is
  pub related : IsRelationBy r.opposite r.order relation
  pub compared : IsWrittenOperand s operand
  pub words : ws ≡ is ++ (relation ++ operand)

-- ---- classes and signs

-- the class or the sign that a word of conditions names
abbrev pub quality_of_word : Option ConditionWord → Option Quality
quality_of_word (Some word.Numeric) = Some (quality.Class class.Numeric)
quality_of_word (Some word.Alphabetic) = Some (quality.Class class.Alphabetic)
quality_of_word (Some word.AlphabeticLower) = Some (quality.Class class.AlphabeticLower)
quality_of_word (Some word.AlphabeticUpper) = Some (quality.Class class.AlphabeticUpper)
quality_of_word (Some word.Positive) = Some (quality.Sign Greater)
quality_of_word (Some word.Negative) = Some (quality.Sign Less)
quality_of_word _ = None

-- the word of a class or a sign: ZERO, too, is that of one
abbrev pub IsQualityWord : Quality → Lexeme → Type 0
IsQualityWord q w = (quality_of_word (condition_word w) ≡ Some q) ⊎ ((word_class w ≡ term.Zero) × (q ≡ quality.Sign Equal))

-- NOT, or nothing
abbrev pub IsNegation : Bool → List Lexeme → Type 0
IsNegation false ws = ws ≡ []
IsNegation true ws = (w : Lexeme) × IsConditionWord word.Not w × (ws ≡ w ∷ [])

-- a class or a sign, or not that; IS may stand before it
pub record IsQualified (opposite : Bool) (q : Quality) (ws : List Lexeme) : Type 0 where
  pub is : List Lexeme
  pub negation : List Lexeme
  pub named : Lexeme
  pub noise : IsOptionalWord term.Is is
  pub negates : IsNegation opposite negation
  pub names : IsQualityWord q named
  pub words : ws ≡ is ++ (negation ++ named ∷ [])

-- ---- simple conditions

-- what stands behind the first operand of a simple condition
abbrev pub GoesBehind : WrittenSender → WrittenTest → List Lexeme → Type 0
GoesBehind a (Relates b r c) ws = (b ≡ a) × IsRelated r c ws
GoesBehind a (StandsAlone b) ws = (b ≡ a) × (ws ≡ [])
GoesBehind a (Has r opposite q) ws = (SentReference r ≡ a) × IsQualified opposite q ws
GoesBehind a (RelatesTo r c) ws = ⊥

-- a simple condition that begins with an operand
pub record BeginsWithOperand (t : WrittenTest) (ws : List Lexeme) : Type 0 where
  pub first : WrittenSender
  pub operand : List Lexeme
  pub behind : List Lexeme
  pub compared : IsWrittenOperand first operand
  pub goes_on : GoesBehind first t behind
  pub words : ws ≡ operand ++ behind

-- the words of a simple condition
abbrev pub IsTestWritten : WrittenTest → List Lexeme → Type 0
IsTestWritten (Relates a r b) ws = BeginsWithOperand (Relates a r b) ws
IsTestWritten (RelatesTo r b) ws = IsRelated r b ws
IsTestWritten (StandsAlone a) ws = BeginsWithOperand (StandsAlone a) ws
IsTestWritten (Has r opposite q) ws = BeginsWithOperand (Has r opposite q) ws

-- ---- conditions

-- How far a condition may be joined outside of brackets: not at all; by NOT; by AND, too; by OR, too.
pub data Joining : Type 0 where
  Alone : Joining
  ByNot : Joining
  ByAnd : Joining
  ByOr : Joining

-- NOT may stand there, or be part of a relation whose subject is left out
abbrev pub JoinsByNot : Joining → Type 0
JoinsByNot Alone = ⊥
JoinsByNot ByNot = Unit {0}
JoinsByNot ByAnd = Unit {0}
JoinsByNot ByOr = Unit {0}

-- AND may stand there
abbrev pub JoinsByAnd : Joining → Type 0
JoinsByAnd Alone = ⊥
JoinsByAnd ByNot = ⊥
JoinsByAnd ByAnd = Unit {0}
JoinsByAnd ByOr = Unit {0}

-- OR may stand there
abbrev pub JoinsByOr : Joining → Type 0
JoinsByOr Alone = ⊥
JoinsByOr ByNot = ⊥
JoinsByOr ByAnd = ⊥
JoinsByOr ByOr = Unit {0}

-- a simple condition may stand there
abbrev pub FitsJoining : Joining → WrittenTest → Type 0
FitsJoining j (Relates a r b) = Unit {0}
FitsJoining j (RelatesTo r b) = JoinsByNot j
FitsJoining j (StandsAlone a) = Unit {0}
FitsJoining j (Has r opposite q) = Unit {0}

-- Words are those of a condition that is joined so far. AND binds closer than OR, NOT closest, and both bind to the left.
abbrev pub IsConditionBy : Joining → WrittenCondition → List Lexeme → Type 0
IsConditionBy j (Simple t) ws = FitsJoining j t × IsTestWritten t ws
IsConditionBy j (InBrackets c) ws = (before after : Lexeme) × (own : List Lexeme)
    × (word_class before ≡ term.OpenBracket) × (word_class after ≡ term.CloseBracket) × IsConditionBy ByOr c own × (ws ≡ before ∷ (own ++ after ∷ []))
IsConditionBy j (BehindNot c) ws = JoinsByNot j × ((w : Lexeme) × (own : List Lexeme) × IsConditionWord word.Not w × IsConditionBy Alone c own × (ws ≡ w ∷ own))
IsConditionBy j (WithAnd c d) ws = JoinsByAnd j × ((front own : List Lexeme) × (w : Lexeme)
    × IsConditionBy ByAnd c front × IsConditionWord word.And w × IsConditionBy ByNot d own × (ws ≡ front ++ w ∷ own))
IsConditionBy j (WithOr c d) ws = JoinsByOr j × ((front own : List Lexeme) × (w : Lexeme)
    × IsConditionBy ByOr c front × IsConditionWord word.Or w × IsConditionBy ByAnd d own × (ws ≡ front ++ w ∷ own))

-- the most words that a condition has: it is read and looked at part by part, one within the other
abbrev pub most_condition_words : ℕ
most_condition_words = 2000

-- the words of a condition
pub record IsWholeCondition (c : WrittenCondition) (ws : List Lexeme) : Type 0 where
  pub is : IsConditionBy ByOr c ws
  pub few : length ws ≤ most_condition_words
