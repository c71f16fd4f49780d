-- The words of relations.
use Rattle.std.specs.Prelude.{◌≡◌, ◌⊎◌, Bool, true, false, List, [], ◌∷◌, ◌++◌, Option, Some, None}
use Rattle.std.specs.declared.cmp.Ordering.{Ordering}
use Rattle.std.specs.declared.cmp.Ordering.TheVariants.{Less, Equal, Greater}
use Rattle.cob_source.specs.Tokens.{Lexeme}
use Rattle.cob_copybook_clauses.specs.declared.term.WordClass.TheVariants as term
use Rattle.cob_copybook_clauses.specs.Clauses.{IsOptionalWord}
use Rattle.cob_move_conditions.specs.declared.words.ConditionWord.{ConditionWord}
use Rattle.cob_move_conditions.specs.declared.words.ConditionWord.TheVariants as word
use Rattle.cob_move_conditions.specs.Words.{IsConditionWord, IsPerhapsWord, condition_word}

-- the order that a word names
abbrev pub order_of_word : Option ConditionWord → Option Ordering
order_of_word (Some word.Equals) = Some Equal
order_of_word (Some word.Equal) = Some Equal
order_of_word (Some word.LessSign) = Some Less
order_of_word (Some word.Less) = Some Less
order_of_word (Some word.GreaterSign) = Some Greater
order_of_word (Some word.Greater) = Some Greater
order_of_word _ = None

-- what may stand behind it: TO behind EQUAL, THAN behind LESS and GREATER
abbrev pub IsBehindOrder : Option ConditionWord → List Lexeme → Type 0
IsBehindOrder (Some word.Equal) ws = IsOptionalWord term.To ws
IsBehindOrder (Some word.Less) ws = IsPerhapsWord word.Than ws
IsBehindOrder (Some word.Greater) ws = IsPerhapsWord word.Than ws
IsBehindOrder _ ws = ws ≡ []

-- the words of an order: =, EQUALS or EQUAL [TO]; < or LESS [THAN]; > or GREATER [THAN]
abbrev pub IsOrderWritten : Ordering → List Lexeme → Type 0
IsOrderWritten order ws = (w : Lexeme) × (behind : List Lexeme)
    × (order_of_word (condition_word w) ≡ Some order) × IsBehindOrder (condition_word w) behind × (ws ≡ w ∷ behind)

-- the order whose opposite a word names, with what stands behind it: <= names that of greater
abbrev pub opposite_of_word : Option ConditionWord → Option Ordering
opposite_of_word (Some word.AtMost) = Some Greater
opposite_of_word (Some word.Less) = Some Greater
opposite_of_word (Some word.AtLeast) = Some Less
opposite_of_word (Some word.Greater) = Some Less
opposite_of_word _ = None

-- perhaps THAN, then OR EQUAL, and perhaps TO
pub record IsOrEqual (ws : List Lexeme) : Type 0 where
  pub than : List Lexeme
  pub either : Lexeme
  pub equal : Lexeme
  pub to : List Lexeme
  pub is_than : IsPerhapsWord word.Than than
  pub is_either : IsConditionWord word.Or either
  pub is_equal : IsConditionWord word.Equal equal
  pub is_to : IsOptionalWord term.To to
  pub words : ws ≡ than ++ (either ∷ equal ∷ to)

-- what has to stand behind it: nothing behind <= and >=, OR EQUAL behind LESS and GREATER
abbrev pub IsBehindOpposite : Option ConditionWord → List Lexeme → Type 0
IsBehindOpposite (Some word.Less) ws = IsOrEqual ws
IsBehindOpposite (Some word.Greater) ws = IsOrEqual ws
IsBehindOpposite _ ws = ws ≡ []

-- the words of the opposite of an order: <= or LESS [THAN] OR EQUAL [TO]; >= or GREATER [THAN] OR EQUAL [TO]
abbrev pub IsOppositeWritten : Ordering → List Lexeme → Type 0
IsOppositeWritten order ws = (w : Lexeme) × (behind : List Lexeme)
    × (opposite_of_word (condition_word w) ≡ Some order) × IsBehindOpposite (condition_word w) behind × (ws ≡ w ∷ behind)

-- the words of an order behind NOT
abbrev pub IsNotOrder : Ordering → List Lexeme → Type 0
IsNotOrder order ws = (w : Lexeme) × (own : List Lexeme) × IsConditionWord word.Not w × IsOrderWritten order own × (ws ≡ w ∷ own)

-- the words of an order; those of its opposite, or of the order behind NOT
abbrev pub IsRelationBy : Bool → Ordering → List Lexeme → Type 0
IsRelationBy false order ws = IsOrderWritten order ws
IsRelationBy true order ws = IsNotOrder order ws ⊎ IsOppositeWritten order ws
