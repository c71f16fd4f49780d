use Rattle.std.proofs.Common.{◌≡◌, ◌++◌, map, length}
use Rattle.cob_source.specs.Tokens.{lexeme, lexemes}
use Rattle.cob_source_copies.specs.TextWords.{text_word, together, together_from}
use Rattle.cob_source_copies.proofs.writing.push_together.Given as goal

abbrev pub invariant-loop-next : goal.invariant-loop-next
invariant-loop-next l = lexemes l.out.items ++ together_from (lexeme l.word) (map text_word l.rest) ≡ lexemes l.initial.out.items ++ together (map text_word l.fragments)

abbrev pub decreases-loop-next : goal.decreases-loop-next
decreases-loop-next l = length l.rest
