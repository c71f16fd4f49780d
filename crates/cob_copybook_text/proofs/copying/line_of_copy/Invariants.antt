use Rattle.std.proofs.Common.{◌≡◌, ◌++◌, List, length}
use Rattle.cob_source.specs.Tokens.{Lexeme, lexemes}
use Rattle.cob_source_copies.specs.Texts.{has_copy}
use Rattle.cob_copybook_text.proofs.copying.line_of_copy.Given as goal

abbrev pub invariant-loop-first : goal.invariant-loop-first
invariant-loop-first l = (has_copy (lexemes l.rest) ≡ has_copy (lexemes l.words)) × ((front : List Lexeme) × (lexemes l.words ≡ front ++ lexemes l.rest))

abbrev pub decreases-loop-first : goal.decreases-loop-first
decreases-loop-first l = length l.rest
