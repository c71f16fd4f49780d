use Rattle.std.proofs.Common.{◌≡◌, ◌++◌, map, length}
use Rattle.cob_source_copies.specs.TextWords.{text_word}
use Rattle.cob_source_copies.specs.Exchanges.{exchanged, replacing}
use Rattle.cob_source_copies.proofs.exchange.exchanged.Given as goal

abbrev pub invariant-loop-first : goal.invariant-loop-first
invariant-loop-first l =
    map text_word l.out.items ++ exchanged (map replacing l.exchanges) 0 (map text_word l.rest)
    ≡ exchanged (map replacing l.exchanges) 0 (map text_word l.fragments)

abbrev pub decreases-loop-first : goal.decreases-loop-first
decreases-loop-first l = length l.rest
