use Rattle.std.proofs.Common.{◌≡◌, map, length}
use Rattle.cob_source_copies.specs.TextWords.{text_word}
use Rattle.cob_source_copies.specs.Exchanges.{first_fitting, replacing}
use Rattle.cob_source_copies.proofs.exchange.first_fitting.Given as goal

abbrev pub invariant-loop-first : goal.invariant-loop-first
invariant-loop-first l = first_fitting (map replacing l.rest) (map text_word l.fragments) ≡ first_fitting (map replacing l.exchanges) (map text_word l.fragments)

abbrev pub decreases-loop-first : goal.decreases-loop-first
decreases-loop-first l = length l.rest
