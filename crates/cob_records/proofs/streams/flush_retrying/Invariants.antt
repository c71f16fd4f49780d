-- An interrupted flush changed nothing that the writer holds.
use Rattle.std.specs.Io.Buffered.{writer_contents}
use Rattle.std.specs.Io.KnownBytes.{Keeps}
use Rattle.cob_records.proofs.streams.flush_retrying.Given as goal

abbrev pub invariant-loop : goal.invariant-loop
invariant-loop g l = Keeps (writer_contents g.W.Write.contents l.initial.writer) (writer_contents g.W.Write.contents l.writer)
