use Rattle.std.proofs.Common.{◌≡◌, ◌++◌, length}
use Rattle.std.specs.List.{flat_map}
use Rattle.cob_source.specs.Tokens.{lexemes}
use Rattle.cob_source.specs.Pieces.{pieces}
use Rattle.cob_source.specs.Cuts.{word}
use Rattle.cob_source.proofs.word.push_pieces.Given as goal

abbrev pub invariant-loop-first : goal.invariant-loop-first
invariant-loop-first l = lexemes l.out.items ++ flat_map word (pieces l.rest) ≡ lexemes l.initial.out.items ++ flat_map word (pieces l.cells)

abbrev pub decreases-loop-first : goal.decreases-loop-first
decreases-loop-first l = length l.rest
