use Rattle.std.proofs.Common.{◌≡◌, ◌<◌, ◌++◌, drop}
use Rattle.cob_test_moves.specs.Choices.{product}
use Rattle.cob_test_moves.proofs.Ranks.{chosen}
use Rattle.cob_test_moves.proofs.choices.choices_of.Given as goal

-- the choices so far and those of what is left are the choices of the rank
abbrev pub invariant-loop-size : goal.invariant-loop-size
invariant-loop-size l =
    (l.left < product (drop l.size-index l.sizes))
    × (l.choices.items ++ chosen (drop l.size-index l.sizes) l.left ≡ chosen l.sizes l.rank)
