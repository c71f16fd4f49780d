-- Which words of a copybook are meant.
use Rattle.std.specs.Prelude.{◌≡◌, false, ℕ, List, map, Option, None, Some}
use Rattle.cob_source.specs.Tokens.{Lexeme}
use Rattle.cob_source_copies.specs.Exchanges.{replaced, replacing}
use Rattle.cob_source_copies.specs.Texts.{AreExpanded, copied_text, has_copy}
use Rattle.cob_copybook_record.specs.OneRecord.{AreSoleWords, AreWordsOfRecord}
use Rattle.cob_copybook_text.specs.declared.copying.Copying.{Copying}
use Rattle.cob_copybook_text.specs.declared.copying.Copying.TheVariants as copying

-- what words come to: themselves; with their COPY statements carried out by the texts of a library; or with each x replaced, and then no COPY statement is
-- among them
abbrev pub ComeTo : Copying → List Lexeme → List Lexeme → Type 0
ComeTo copying.Left words all = all ≡ words
ComeTo (copying.CarriedOut library) words all = AreExpanded (map copied_text library.texts.items) words all
ComeTo (copying.Replaced exchanges) words all = (has_copy words ≡ false) × (all ≡ replaced (map replacing exchanges.items) words)

-- the words of the record of this name; or where none is named, those of the only one
abbrev pub AreOfRecord : Option (List ℕ) → List Lexeme → List Lexeme → Type 0
AreOfRecord None all own = AreSoleWords all own
AreOfRecord (Some name) all own = AreWordsOfRecord name all own

-- The words of a copybook that are meant: what its words come to, and of that the words of one record.
pub record AreMeantWords (how : Copying) (name : Option (List ℕ)) (words own : List Lexeme) : Type 0 where
  pub all : List Lexeme
  pub come : ComeTo how words all
  pub chosen : AreOfRecord name all own
