-- How far a paragraph is read that is read piece by piece.
use Rattle.std.specs.Prelude.{◌≡◌, ℕ, ◌+◌, ◌≤◌, Bool, true, false, List, ◌++◌, length}
use Rattle.cob_limits.specs.Limits.{longest_text}
use Rattle.cob_source.specs.declared.ahead.WordsAhead.{WordsAhead}
use Rattle.cob_source.specs.declared.token.Cutting.TheVariants.{Apart}
use Rattle.cob_source.specs.declared.token.Token.{Token}
use Rattle.cob_source.specs.declared.fault.SourceRule.{SourceRule}
use Rattle.cob_source.specs.Cuts.{open_quote}
use Rattle.cob_source.specs.Tokens.{Lexeme, lexemes}
use Rattle.cob_source.specs.Lines.{lines}
use Rattle.cob_source.specs.Reading.{HasRead}
use Rattle.cob_source.specs.Words.{IsSourceRefusal, AreParagraphWordsOf}

-- the lines that are ahead are so few that there is a number for each
abbrev pub HaveLineNumbers : WordsAhead → Type 0
HaveLineNumbers ahead = ahead.number + length ahead.rest.now ≤ 1000001

-- the literal that is open at the end of the last joined line is noted
abbrev pub IsNoted : WordsAhead → Type 0
IsNoted ahead = ahead.joined.quote ≡ open_quote ahead.joined.cells.items

-- of a text, all lines but those ahead are read: to these words, and to the last joined line
pub record IsReadTo (text : List ℕ) (words : List Lexeme) (ahead : WordsAhead) : Type 0 where
  pub short : length text ≤ longest_text
  pub before : List (List ℕ)
  pub lines_are : lines text ≡ before ++ lines ahead.rest.now
  pub number_is : ahead.number ≡ length before + 1
  pub read : HasRead Apart before ahead.joined.cells.items ahead.joined.quote ahead.joined.last words

-- whatever words stand in front, a text that is read to these tokens behind them is then read to those
abbrev pub ReadsOn : List Token → List Token → WordsAhead → WordsAhead → Type 0
ReadsOn old new before after = (text : List ℕ) (front : List Lexeme) → IsReadTo text (front ++ lexemes old) before → IsReadTo text (front ++ lexemes new) after

-- these words of a paragraph are read: those before what is ahead, where more are left, and else all
abbrev pub AreReadOf : List ℕ → List Lexeme → WordsAhead → Bool → Type 0
AreReadOf text words ahead true = IsReadTo text words ahead
AreReadOf text words ahead false = AreParagraphWordsOf text words

-- whatever words stand in front, a text that is read to these tokens behind them breaks this rule on this line, or memory is refused, and then the line is 0
abbrev pub RefusesTextOf : List Token → WordsAhead → SourceRule → ℕ → Type 0
RefusesTextOf tokens ahead rule line = (text : List ℕ) (front : List Lexeme) → IsReadTo text (front ++ lexemes tokens) ahead → IsSourceRefusal rule line text
