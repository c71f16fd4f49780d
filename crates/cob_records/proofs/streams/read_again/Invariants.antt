-- An interrupted read took nothing from the reader.
use Rattle.std.specs.Io.KnownBytes.{Keeps}
use Rattle.cob_records.proofs.streams.read_again.Given as goal

abbrev pub invariant-loop : goal.invariant-loop
invariant-loop g l = Keeps (g.R.Read.remaining l.initial.reader) (g.R.Read.remaining l.reader)
