use Rattle.std.proofs.Common.{◌≡◌, ◌++◌, map, length}
use Rattle.cob_source_copies.specs.TextWords.{text_word}
use Rattle.cob_source_copies.specs.Exchanges.{in_place_of, put_for}
use Rattle.cob_source_copies.proofs.exchange.push_for.Given as goal

abbrev pub invariant-loop-next : goal.invariant-loop-next
invariant-loop-next l =
    map text_word l.out.items ++ map (λ u. in_place_of (text_word l.place) u.joins u) (map text_word l.rest)
    ≡ map text_word l.fn.out.items ++ put_for (text_word l.place) (map text_word l.to)

abbrev pub decreases-loop-next : goal.decreases-loop-next
decreases-loop-next l = length l.rest
