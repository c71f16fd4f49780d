-- Counters among the words of a condition: one may stand in subscripts, and is no operand.
use Rattle.std.specs.Prelude.{◌≡◌, Bool, true, false, ◌&&◌, ◌||◌, not, is_some, List, [], ◌∷◌}
use Rattle.cob_source.specs.Tokens.{Lexeme}
use Rattle.cob_copybook_clauses.specs.declared.term.WordClass.{WordClass}
use Rattle.cob_copybook_clauses.specs.declared.term.WordClass.TheVariants as term
use Rattle.cob_copybook_clauses.specs.Terms.{word_class}
use Rattle.cob_move_conditions.specs.Words.{condition_word}
use Rattle.cob_move_loops.specs.Turns.{Counted, counted_number}

-- a plain word that is no word of conditions
abbrev pub may_be_name_by : WordClass → Bool → Bool
may_be_name_by term.Plain other = not other
may_be_name_by _ other = false

-- a word that may be a name in a condition
abbrev pub may_be_name : Lexeme → Bool
may_be_name w = may_be_name_by (word_class w) (is_some (condition_word w))

-- Subscripts go on behind a word: a bracket opens them behind a name. Behind another word it is one of the condition.
abbrev pub subscripts_behind : (inside named : Bool) → WordClass → Bool
subscripts_behind inside named term.OpenBracket = named
subscripts_behind inside named term.CloseBracket = false
subscripts_behind inside named _ = inside

-- No counter stands outside of subscripts, among words of which the first stand in subscripts, or behind a name.
abbrev pub has_no_counter : List Counted → (inside named : Bool) → List Lexeme → Bool
has_no_counter ns inside named [] = true
has_no_counter ns inside named (w ∷ ws) =
    (inside || not (is_some (counted_number ns w))) && has_no_counter ns (subscripts_behind inside named (word_class w)) (may_be_name w) ws

-- no counter is an operand among the words of a condition
abbrev pub HasNoCounter : List Counted → List Lexeme → Type 0
HasNoCounter ns ws = has_no_counter ns false false ws ≡ true
