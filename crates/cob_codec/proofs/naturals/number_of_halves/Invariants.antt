use Rattle.std.proofs.Common.{take}
use Rattle.cob_codec.proofs.NaturalLemmas.{IsNumberOfHalves}
use Rattle.cob_codec.proofs.naturals.number_of_halves.Given as goal

abbrev pub invariant-loop-byte : goal.invariant-loop-byte
invariant-loop-byte l = record {
  so_far : IsNumberOfHalves (take l.byte-index l.bytes) l.value;
}
