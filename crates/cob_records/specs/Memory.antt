-- Ends over memory, as their callers see them.
use Rattle.std.specs.Prelude.{ℕ, ◌-◌, List, length, take}
use Rattle.cob_records.specs.declared.memory.MemSource.{MemSource}
use Rattle.cob_records.specs.declared.memory.MemSink.{MemSink}

-- what a source has still to give
abbrev pub source_rest : MemSource → List ℕ
source_rest source = source.rest.now

-- what a sink has taken
abbrev pub sink_taken : MemSink → List ℕ
sink_taken sink = take sink.count sink.room.now

-- how many bytes a sink has room for
abbrev pub sink_room : MemSink → ℕ
sink_room sink = length sink.room.now - sink.count

-- how often a sink was full
abbrev pub sink_failures : MemSink → ℕ
sink_failures sink = sink.failures
