-- The words of a text in either format.
use Rattle.std.specs.Prelude.{◌≡◌, ℕ, List}
use Rattle.cob_source.specs.declared.fault.SourceRule.{SourceRule}
use Rattle.cob_source.specs.declared.format.TextFormat.{TextFormat}
use Rattle.cob_source.specs.declared.format.TextFormat.TheVariants as format
use Rattle.cob_source.specs.Tokens.{Lexeme}
use Rattle.cob_source.specs.Words.{AreWordsOf, IsSourceRefusal}
use Rattle.cob_source.specs.Free.{AreFreeWordsOf, IsFreeRefusal}

-- the words of a text in this format
abbrev pub AreWordsIn : TextFormat → List ℕ → List Lexeme → Type 0
AreWordsIn format.Reference text ts = AreWordsOf text ts
AreWordsIn format.Free text ts = AreFreeWordsOf text ts

-- a refusal names a rule that a text in this format breaks, on the line that breaks it
abbrev pub IsRefusalIn : TextFormat → SourceRule → ℕ → List ℕ → Type 0
IsRefusalIn format.Reference rule n text = IsSourceRefusal rule n text
IsRefusalIn format.Free rule n text = IsFreeRefusal rule n text

-- law: a text has its words in one way, in each format
abbrev pub WordsInAreOne : Type 0
WordsInAreOne = (format : TextFormat) (text : List ℕ) (a b : List Lexeme) → AreWordsIn format text a → AreWordsIn format text b → a ≡ b
