use Rattle.std.proofs.Common.{◌≡◌, length}
use Rattle.cob_source.specs.Tokens.{lexemes}
use Rattle.cob_source_copies.specs.Texts.{has_copy}
use Rattle.cob_source_copies.proofs.adding.has_copy.Given as goal

abbrev pub invariant-loop-first : goal.invariant-loop-first
invariant-loop-first l = has_copy (lexemes l.rest) ≡ has_copy (lexemes l.words)

abbrev pub decreases-loop-first : goal.decreases-loop-first
decreases-loop-first l = length l.rest
