use Rattle.std.proofs.Common.{◌≡◌, drop}
use Rattle.cob_source.specs.Lines.{same_letters}
use Rattle.cob_source.proofs.lines.is_spelled.Given as goal

abbrev pub invariant-loop-b : goal.invariant-loop-b
invariant-loop-b l = same_letters l.word l.capitals ≡ same_letters (drop l.b-index l.word) l.rest
