use Rattle.std.proofs.Common.{◌≡◌, drop}
use Rattle.cob_source.specs.Reading.{open_in}
use Rattle.cob_source.proofs.joined.open_behind.Given as goal

abbrev pub invariant-loop-byte : goal.invariant-loop-byte
invariant-loop-byte l = open_in l.initial.now l.bytes ≡ open_in l.now (drop l.byte-index l.bytes)
