-- What comes first, or doesn't.
use Rattle.std.specs.Prelude.{◌≡◌, List, [], ◌∷◌}
use Rattle.cob_source.specs.Tokens.{Lexeme}
use Rattle.cob_copybook_clauses.specs.declared.term.WordClass.TheVariants as term
use Rattle.cob_copybook_clauses.specs.Terms.{word_class}
use Rattle.cob_move_conditions.specs.declared.words.ConditionWord.{ConditionWord}
use Rattle.cob_move_conditions.specs.Words.{IsConditionWord, IsNoConditionWord}

-- this word of conditions doesn't come first
abbrev pub NotConditionWordFirst : ConditionWord → List Lexeme → Type 0
NotConditionWordFirst c [] = Unit {0}
NotConditionWordFirst c (w ∷ ws) = IsConditionWord c w → ⊥

-- neither a word of conditions comes first, nor TO or IS
abbrev pub OperandFirst : List Lexeme → Type 0
OperandFirst [] = ⊥
OperandFirst (w ∷ ws) = IsNoConditionWord w × (word_class w ≡ term.To → ⊥) × (word_class w ≡ term.Is → ⊥)

-- any words
abbrev pub IsAny : List Lexeme → Type 0
IsAny ws = Unit {0}
