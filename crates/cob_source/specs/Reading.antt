-- What has been read of a text at the end of a line.
use Rattle.std.specs.Prelude.{◌≡◌, ℕ, ◌+◌, ◌-◌, ◌<◌, ◌⊎◌, true, false, List, [], ◌∷◌, ◌++◌, length, drop, Option, None, is_some, OnOk, Result}
use Rattle.std.specs.List.{AllByRecursion}
use Rattle.cob_source.specs.declared.joined.Joined.{Joined}
use Rattle.cob_source.specs.declared.token.Cell.{Cell}
use Rattle.cob_source.specs.declared.token.Cutting.{Cutting}
use Rattle.cob_source.specs.declared.token.Token.{Token}
use Rattle.cob_source.specs.declared.lines.LineKind.TheVariants.{Plain}
use Rattle.cob_source.specs.declared.fault.SourceRule.{SourceRule}
use Rattle.cob_source.specs.declared.fault.SourceRule.TheVariants.{OpenLiteral, BadContinuation, TooLong, Memory}
use Rattle.cob_source.specs.Tokens.{Lexeme, lexemes}
use Rattle.cob_source.specs.Cuts.{open_with, open_quote, Cuts}
use Rattle.cob_source.specs.Lines.{filled, kind_of_line, joined_of, last_joined, continued}
use Rattle.cob_source.specs.Words.{ends_quoted, breaks, AreFit, is_bad_continuation}

-- the last joined line begins with the line's end before it, or there is none yet
abbrev pub Begins : List Cell → List Cell → Type 0
Begins done [] = done ≡ []
Begins done (c ∷ cells) = c.byte ≡ 10

-- the quote of the literal that is open behind these bytes, where this one was open before them
abbrev pub open_in : Option ℕ → List ℕ → Option ℕ
open_in q [] = q
open_in q (b ∷ bs) = open_in (open_with q b) bs

-- a space
abbrev pub IsSpace : Cell → Type 0
IsSpace c = c.byte ≡ 32

-- these cells are a text but for what they leave out: spaces at its end, and nothing where a literal is open there; they end in a
-- quote exactly where the text does
pub record LeavesOutSpaces (cells whole : List Cell) : Type 0 where
  pub left_out : List Cell
  pub whole_is : whole ≡ cells ++ left_out
  pub are_spaces : AllByRecursion IsSpace left_out
  pub open_whole : is_some (open_quote cells) ≡ true → left_out ≡ []
  pub ends_same : ends_quoted whole ≡ ends_quoted cells

-- so many columns from 8 on, the first ones left out: all 65, or one at least, and the last of them and all behind it are spaces
abbrev pub EndsInSpaces : List ℕ → ℕ → ℕ → Type 0
EndsInSpaces text skipped end = (end ≡ 65) ⊎ ((skipped < end) × AllByRecursion (λ b. b ≡ 32) (drop (end - 1) (filled text)))

-- these lines are read: what they are joined to is cut into these words as far as it is done, and the last joined line, which may
-- go on, comes behind; these cells stand for it
pub record HasRead (m : Cutting) (before : List (List ℕ)) (cells : List Cell) (open_now : Option ℕ) (last : ℕ) (words : List Lexeme) : Type 0 where
  pub done : List Cell
  pub whole : List Cell
  pub joined_is : joined_of before ≡ done ++ whole
  pub begins : Begins done whole
  pub stands : LeavesOutSpaces cells whole
  pub open_is : open_now ≡ open_quote cells
  pub closed : open_quote done ≡ None
  pub cut : Cuts m done words
  pub last_is : last ≡ last_joined before
  pub fit : AreFit before

-- These lines are read to these words, these tokens behind them, and to the last joined line.
abbrev pub HasReadLines : Cutting → List (List ℕ) → Joined → List Lexeme → List Token → Type 0
HasReadLines m before joined front tokens = HasRead m before joined.cells.items joined.quote joined.last (front ++ lexemes tokens)

-- where an answer is Ok, they are with this line behind them
abbrev pub HasReadLine : {A E : Type 0} → Cutting → List ℕ → Joined → List Token → Result A E → List Lexeme → List (List ℕ) → Type 0
HasReadLine m line joined tokens answer front before = OnOk answer (HasReadLines m (before ++ line ∷ []) joined front tokens)

-- Whatever the lines before the one with this number are, and the words in front, where they are read so, this is true of them.
abbrev pub AfterLines : Cutting → ℕ → Joined → List Token → (List Lexeme → List (List ℕ) → Type 0) → Type 0
AfterLines m number joined tokens P =
    (front : List Lexeme) (before : List (List ℕ)) → number ≡ length before + 1 → HasReadLines m before joined front tokens → P front before

-- a literal is left open, or memory is refused
abbrev pub EndRefused : SourceRule → ℕ → Option ℕ → ℕ → Type 0
EndRefused Memory n open_now last = n ≡ 0
EndRefused OpenLiteral n open_now last = (is_some open_now ≡ true) × (n ≡ last)
EndRefused rule n open_now last = ⊥

-- a continuation doesn't fit, or memory is refused
abbrev pub ContinuationRefused : SourceRule → ℕ → ℕ → List Cell → List ℕ → Type 0
ContinuationRefused Memory n number cells line = n ≡ 0
ContinuationRefused BadContinuation n number cells line = (is_bad_continuation cells line ≡ true) × (n ≡ number)
ContinuationRefused rule n number cells line = ⊥

-- a continuation line was joined
pub record IsContinued (number : ℕ) (line : List ℕ) (old new : List Cell) (open_now : Option ℕ) (last : ℕ) : Type 0 where
  pub fits : is_bad_continuation old line ≡ false
  pub stands : LeavesOutSpaces new (continued (open_quote old) number old line)
  pub open_is : open_now ≡ open_quote new
  pub last_is : last ≡ number

-- why a line behind these is refused, and which line is named
abbrev pub LineRefused : SourceRule → ℕ → List (List ℕ) → List ℕ → Type 0
LineRefused Memory n before line = n ≡ 0
LineRefused TooLong n before line = ⊥
LineRefused OpenLiteral n before line = AreFit before × (kind_of_line line ≡ Plain) × (is_some (open_quote (joined_of before)) ≡ true) × (n ≡ last_joined before)
LineRefused BadContinuation n before line = AreFit before × (breaks BadContinuation (joined_of before) line ≡ true) × (n ≡ length before + 1)
LineRefused rule n before line = (breaks rule (joined_of before) line ≡ true) × (n ≡ length before + 1)
