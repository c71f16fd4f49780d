use Rattle.std.proofs.Common.{◌≡◌, ◌++◌, map, false, length}
use Rattle.cob_source.specs.Tokens.{lexeme}
use Rattle.cob_source_copies.specs.TextWords.{parts_at, parts_in, text_word}
use Rattle.cob_source_copies.proofs.fragment.push_parts.Given as goal

abbrev pub invariant-loop-part : goal.invariant-loop-part
invariant-loop-part l =
    map text_word l.out.items ++ parts_at (lexeme l.word) l.joins (parts_in l.rest)
    ≡ map text_word l.initial.out.items ++ parts_at (lexeme l.word) false (parts_in (lexeme l.word).text)

abbrev pub decreases-loop-part : goal.decreases-loop-part
decreases-loop-part l = length l.rest
