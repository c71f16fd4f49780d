use Rattle.std.proofs.Common.{map, length}
use Rattle.cob_source.specs.Tokens.{lexemes}
use Rattle.cob_source_copies.specs.Statements.{written_text_name}
use Rattle.cob_source_copies.proofs.LibraryLemmas.{NamesSoFar}
use Rattle.cob_source_copies.proofs.wanted.names_wanted.Given as goal

abbrev pub invariant-loop-first : goal.invariant-loop-first
invariant-loop-first l = NamesSoFar (lexemes l.words) (lexemes l.rest) (map written_text_name l.out.items)

abbrev pub decreases-loop-first : goal.decreases-loop-first
decreases-loop-first l = length l.rest
