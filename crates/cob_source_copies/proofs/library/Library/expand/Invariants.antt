use Rattle.std.proofs.Common.{map, length}
use Rattle.cob_source.specs.Tokens.{lexemes}
use Rattle.cob_source_copies.specs.Texts.{copied_text}
use Rattle.cob_source_copies.proofs.ExpansionLemmas.{SoFar}
use Rattle.cob_source_copies.proofs.library.Library.expand.Given as goal

abbrev pub invariant-loop-first : goal.invariant-loop-first
invariant-loop-first l = SoFar (map copied_text l.self.texts.items) (lexemes l.words) (lexemes l.rest) l.room (lexemes l.out.items)

abbrev pub decreases-loop-first : goal.decreases-loop-first
decreases-loop-first l = length l.rest
