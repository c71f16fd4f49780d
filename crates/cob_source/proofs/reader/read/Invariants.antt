use Rattle.std.proofs.Common.{◌≡◌, ℕ, ◌+◌, ◌≤◌, List, ◌++◌, length}
use Rattle.cob_source.specs.Tokens.{lexemes}
use Rattle.cob_source.specs.Lines.{lines}
use Rattle.cob_source.specs.Reading.{HasRead}
use Rattle.cob_source.proofs.reader.read.Given as goal

abbrev pub invariant-loop-rest : goal.invariant-loop-rest
invariant-loop-rest l = record {
  few : l.number + length l.rest ≤ 1000001;
  read : (before : List (List ℕ)) × (lines l.text ≡ before ++ lines l.rest) × (l.number ≡ length before + 1) × HasRead l.cutting before l.joined.cells.items l.joined.quote l.joined.last (lexemes l.out.items);
}

abbrev pub decreases-loop-rest : goal.decreases-loop-rest
decreases-loop-rest l = length l.rest
