-- The words of conditions.
use Rattle.std.specs.Prelude.{◌≡◌, ℕ, if◌then◌else◌, bytes_eq, codes, List, [], ◌∷◌, Option, Some, None}
use Rattle.cob_source.specs.Tokens.{Lexeme}
use Rattle.cob_copybook_clauses.specs.Terms.{word_class}
use Rattle.cob_copybook_clauses.specs.declared.term.WordClass.{WordClass}
use Rattle.cob_copybook_clauses.specs.declared.term.WordClass.TheVariants as term
use Rattle.cob_move_conditions.specs.declared.words.ConditionWord.{ConditionWord}
use Rattle.cob_move_conditions.specs.declared.words.ConditionWord.TheVariants as word

-- the word of conditions that a text is, if it is one of those that join conditions
abbrev pub joining_word_in : List ℕ → Option ConditionWord
joining_word_in text =
    if bytes_eq text (codes "AND") then Some word.And
    else if bytes_eq text (codes "OR") then Some word.Or
    else if bytes_eq text (codes "NOT") then Some word.Not
    else None

-- one of those that name a class or a sign
abbrev pub class_word_in : List ℕ → Option ConditionWord
class_word_in text =
    if bytes_eq text (codes "NUMERIC") then Some word.Numeric
    else if bytes_eq text (codes "ALPHABETIC") then Some word.Alphabetic
    else if bytes_eq text (codes "ALPHABETIC-LOWER") then Some word.AlphabeticLower
    else if bytes_eq text (codes "ALPHABETIC-UPPER") then Some word.AlphabeticUpper
    else if bytes_eq text (codes "POSITIVE") then Some word.Positive
    else if bytes_eq text (codes "NEGATIVE") then Some word.Negative
    else joining_word_in text

-- one of those that name an order
abbrev pub condition_word_in : List ℕ → Option ConditionWord
condition_word_in text =
    if bytes_eq text (codes "=") then Some word.Equals
    else if bytes_eq text (codes "EQUALS") then Some word.Equals
    else if bytes_eq text (codes "EQUAL") then Some word.Equal
    else if bytes_eq text (codes "<") then Some word.LessSign
    else if bytes_eq text (codes "LESS") then Some word.Less
    else if bytes_eq text (codes ">") then Some word.GreaterSign
    else if bytes_eq text (codes "GREATER") then Some word.Greater
    else if bytes_eq text (codes "<=") then Some word.AtMost
    else if bytes_eq text (codes ">=") then Some word.AtLeast
    else if bytes_eq text (codes "THAN") then Some word.Than
    else class_word_in text

-- no reserved word is a word of conditions
abbrev pub condition_word_of : WordClass → List ℕ → Option ConditionWord
condition_word_of term.Plain text = condition_word_in text
condition_word_of _ text = None

-- the word of conditions that a word is, if it is one: in a condition none of these is a name
abbrev pub condition_word : Lexeme → Option ConditionWord
condition_word w = condition_word_of (word_class w) w.text

-- this word of conditions
abbrev pub IsConditionWord : ConditionWord → Lexeme → Type 0
IsConditionWord c w = condition_word w ≡ Some c

-- no word of conditions
abbrev pub IsNoConditionWord : Lexeme → Type 0
IsNoConditionWord w = condition_word w ≡ None

-- this word of conditions, or nothing
abbrev pub IsPerhapsWord : ConditionWord → List Lexeme → Type 0
IsPerhapsWord c [] = Unit {0}
IsPerhapsWord c (w ∷ []) = IsConditionWord c w
IsPerhapsWord c (w ∷ v ∷ ws) = ⊥
