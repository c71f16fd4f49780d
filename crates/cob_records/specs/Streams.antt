-- Ends over readers and writers of the standard library, as their callers see them.
use Rattle.std.specs.Prelude.{ℕ}
use Rattle.cob_records.specs.declared.streams.ReadSource.{ReadSource}
use Rattle.cob_records.specs.declared.streams.WriteSink.{WriteSink}

-- the reader inside
abbrev pub source_reader : {R : Type 0} → ReadSource R → R
source_reader source = source.reader

-- how many reads failed
abbrev pub source_failures : {R : Type 0} → ReadSource R → ℕ
source_failures source = source.failures

-- the writer inside
abbrev pub sink_writer : {W : Type 0} → WriteSink W → W
sink_writer sink = sink.writer

-- how many writes failed or took nothing, and how many flushes failed
abbrev pub sink_failures : {W : Type 0} → WriteSink W → ℕ
sink_failures sink = sink.failures

-- how many writes and flushes failed
abbrev pub sink_errors : {W : Type 0} → WriteSink W → ℕ
sink_errors sink = sink.errors
