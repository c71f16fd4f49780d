-- Texts in either format.
use Rattle.std.proofs.Common.{◌≡◌, ℕ, List}
use Rattle.cob_source.specs.declared.token.Cutting.TheVariants.{Whole}
use Rattle.cob_source.specs.declared.format.TextFormat.{TextFormat}
use Rattle.cob_source.specs.declared.format.TextFormat.TheVariants.{Reference, Free}
use Rattle.cob_source.specs.Tokens.{Lexeme}
use Rattle.cob_source.specs.Formats.{AreWordsIn}
use Rattle.cob_source.proofs.ReadingLemmas.{words_once}
use Rattle.cob_source.proofs.FreeLemmas.{free_words_once}

pub words_in_once : (format : TextFormat) (text : List ℕ) (a b : List Lexeme) → AreWordsIn format text a → AreWordsIn format text b → a ≡ b
words_in_once Reference text a b x y = words_once Whole text a b x y
words_in_once Free text a b x y = free_words_once text a b x y
