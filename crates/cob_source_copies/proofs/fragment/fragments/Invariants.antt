use Rattle.std.proofs.Common.{◌≡◌, ◌++◌, map, length}
use Rattle.cob_source.specs.Tokens.{lexemes}
use Rattle.cob_source_copies.specs.TextWords.{text_word, text_words}
use Rattle.cob_source_copies.proofs.fragment.fragments.Given as goal

abbrev pub invariant-loop-first : goal.invariant-loop-first
invariant-loop-first l = map text_word l.out.items ++ text_words (lexemes l.rest) ≡ text_words (lexemes l.words)

abbrev pub decreases-loop-first : goal.decreases-loop-first
decreases-loop-first l = length l.rest
