-- Texts in free format: what stands on a line counts from its first character on.
use Rattle.std.specs.Prelude.{◌≡◌, ◌⊎◌, ℕ, ◌+◌, ◌<◌, ◌≤◌, Bool, true, false, ◌==◌, ◌||◌, nat_lt, if◌then◌else◌, List, [], ◌∷◌, ◌++◌, length, take, codes, None, is_some}
use Rattle.std.specs.List.{list_any}
use Rattle.cob_limits.specs.Limits.{longest_text}
use Rattle.cob_source.specs.declared.token.Cutting.TheVariants.{Whole}
use Rattle.cob_source.specs.declared.fault.SourceRule.{SourceRule}
use Rattle.cob_source.specs.declared.fault.SourceRule.TheVariants.{NotAscii, Tab, OpenLiteral, BadContinuation, TooLong, UnknownIndicator, Memory}
use Rattle.cob_source.specs.Tokens.{Lexeme}
use Rattle.cob_source.specs.Cuts.{Cuts}
use Rattle.cob_source.specs.Comments.{comment_at}
use Rattle.cob_source.specs.Lines.{lines, behind_spaces, cells_from, is_direction, is_first_word}
use Rattle.cob_source.specs.Words.{is_foreign}
use Rattle.cob_source.specs.Reading.{open_in}

-- a line without its comment
abbrev pub uncommented : List ℕ → List ℕ
uncommented line = take (comment_at line) line

-- what is only for a compiler or its listing, or says that the format is free
abbrev pub is_free_direction : List ℕ → Bool
is_free_direction bs = is_direction bs || is_first_word (codes ">>SOURCE") (behind_spaces bs)

-- what a line says
abbrev pub free_text : List ℕ → List ℕ
free_text line = if is_free_direction (uncommented line) then [] else uncommented line

-- whether a line breaks the rule: before its comment stands a byte outside 20 to 7E or a tab, or over 255 bytes, or a literal is open
-- at its end. There are no columns, and so no continuations.
abbrev pub breaks_free : SourceRule → List ℕ → Bool
breaks_free NotAscii line = list_any is_foreign (uncommented line)
breaks_free Tab line = list_any (λ b. b == 9) (uncommented line)
breaks_free OpenLiteral line = is_some (open_in None (free_text line))
breaks_free TooLong line = nat_lt 255 (length (uncommented line))
breaks_free BadContinuation line = false
breaks_free UnknownIndicator line = false
breaks_free Memory line = false

-- a line breaks no rule
abbrev pub FitsFree : List ℕ → Type 0
FitsFree line = (rule : SourceRule) → breaks_free rule line ≡ false

-- the lines, from number n on, are cut into these words, literals and stops: each by itself
abbrev pub AreFreeFrom : ℕ → List (List ℕ) → List Lexeme → Type 0
AreFreeFrom n [] ts = ts ≡ []
AreFreeFrom n (line ∷ more) ts =
    FitsFree line × ((here behind : List Lexeme) × Cuts Whole (cells_from n 1 (free_text line)) here × AreFreeFrom (n + 1) more behind × (ts ≡ here ++ behind))

-- the words of a text in free format
pub record AreFreeWordsOf (text : List ℕ) (ts : List Lexeme) : Type 0 where
  pub short : length text ≤ longest_text
  pub words : AreFreeFrom 1 (lines text) ts

-- line n breaks the rule
pub record BreaksFreeAt (rule : SourceRule) (n : ℕ) (ls : List (List ℕ)) : Type 0 where
  pub before : List (List ℕ)
  pub line : List ℕ
  pub after : List (List ℕ)
  pub lines_are : ls ≡ before ++ line ∷ after
  pub broken : breaks_free rule line ≡ true
  pub number : n ≡ length before + 1

-- a refusal names a rule that is broken, on the line that breaks it; a text that is too long breaks its rule on line 1; memory has line 0
abbrev pub IsFreeRefusal : SourceRule → ℕ → List ℕ → Type 0
IsFreeRefusal Memory n text = n ≡ 0
IsFreeRefusal TooLong n text = ((longest_text < length text) × (n ≡ 1)) ⊎ BreaksFreeAt TooLong n (lines text)
IsFreeRefusal rule n text = BreaksFreeAt rule n (lines text)

-- why a line is refused, and which number is told
abbrev pub FreeLineRefused : SourceRule → ℕ → ℕ → List ℕ → Type 0
FreeLineRefused Memory n number line = n ≡ 0
FreeLineRefused rule n number line = (breaks_free rule line ≡ true) × (n ≡ number)

-- law: a text in free format has its words in one way
abbrev pub FreeWordsAreOne : Type 0
FreeWordsAreOne = (text : List ℕ) (a b : List Lexeme) → AreFreeWordsOf text a → AreFreeWordsOf text b → a ≡ b

-- law: a text in free format that has words breaks no rule
abbrev pub FreeWordsBreakNoRule : Type 0
FreeWordsBreakNoRule = (text : List ℕ) (ts : List Lexeme) (rule : SourceRule) (n : ℕ) → AreFreeWordsOf text ts → IsFreeRefusal rule n text → rule ≡ Memory
