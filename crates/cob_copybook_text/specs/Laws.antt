-- What holds of the words of a copybook that are meant.
use Rattle.std.specs.Prelude.{◌≡◌, ℕ, List, Option}
use Rattle.cob_source.specs.Tokens.{Lexeme}
use Rattle.cob_copybook_text.specs.Meant.{AreMeantWords}
use Rattle.cob_copybook_text.specs.declared.copying.Copying.{Copying}

-- law: words come to one list that is meant at most
abbrev pub MeantWordsAreOne : Type 0
MeantWordsAreOne = (how : Copying) (name : Option (List ℕ)) (words a b : List Lexeme) → AreMeantWords how name words a → AreMeantWords how name words b → a ≡ b
