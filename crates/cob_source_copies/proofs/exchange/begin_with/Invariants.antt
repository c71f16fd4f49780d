use Rattle.std.proofs.Common.{◌≡◌, map, length}
use Rattle.cob_source_copies.specs.TextWords.{text_word}
use Rattle.cob_source_copies.specs.Exchanges.{begin_with}
use Rattle.cob_source_copies.proofs.exchange.begin_with.Given as goal

abbrev pub invariant-loop-wanted : goal.invariant-loop-wanted
invariant-loop-wanted l = begin_with (map text_word l.left) (map text_word l.rest) ≡ begin_with (map text_word l.from) (map text_word l.fragments)

abbrev pub decreases-loop-wanted : goal.decreases-loop-wanted
decreases-loop-wanted l = length l.left
