-- What a conversion comes to behind its run: whether its outputs were handed to their devices, and put in their places.
use Rattle.std.specs.Prelude.{◌≡◌, ◌==◌, ◌||◌, ◌+◌, ◌-◌, ℕ, Bool, true, false, Result, Ok, Err, ⊤, if◌then◌else◌}
use Rattle.cob_convert_stream.specs.Reasons.{is_write_cause}
use Rattle.cob_convert_stream.specs.declared.fault.RunFault.{RunFault}
use Rattle.cob_convert.specs.declared.aside.AsideFault.{AsideFault}
use Rattle.cob_convert.specs.declared.aside.AsideFault.TheVariants as aside
use Rattle.cob_convert.specs.declared.aside.Tally.{Tally}
use Rattle.cob_program_faults.specs.declared.outputs.OutputFault.{OutputFault}
use Rattle.cob_program_faults.specs.declared.outputs.OutputFault.TheVariants as place
use Rattle.cob_records.specs.Progress.{kept_count}
use Rattle.cob_records.specs.declared.device.DeviceFault.{DeviceFault}
use Rattle.cob_program_faults.specs.declared.fault.CommandFault.{CommandFault}
use Rattle.cob_program_faults.specs.declared.fault.CommandFault.TheVariants as fault
use Rattle.cob_program_faults.specs.Faults.{aside_fault}
use Rattle.cob_program_run.specs.declared.marks.Marks.{Marks}
use Rattle.cob_program_run.specs.declared.running_aside.AsideEnding.{AsideEnding}
use Rattle.cob_program_run.specs.declared.running_aside.PlacesFault.{PlacesFault}
use Rattle.cob_program_run.specs.declared.running_aside.PlacesFault.TheVariants as places
use Rattle.cob_program_run.specs.Marks.{last_put, unmarked}

-- ---- outputs that were not handed over whole

-- an output failed: a record could not be written, or a rejected one not be set aside
abbrev pub fails_output : AsideFault → Bool
fails_output (aside.Stopped stopped) = is_write_cause stopped.cause
fails_output (aside.NotSetAside number cause written) = true

-- how many records came whole and were converted or set aside
abbrev pub records_before : Result Tally AsideFault → ℕ
records_before (Ok tally) = kept_count (tally.converted + tally.rejected)
records_before (Err (aside.Stopped stopped)) = stopped.number - 1
records_before (Err (aside.NotSetAside number cause written)) = number - 1

-- What is told of a run an output of which was not handed to its device, whose last record is this one: that this is not there whole, also in the
-- place of a stop. An output that failed before is told before it; and where no record was to be there, 0, the output lacks none, and a stop is told.
abbrev pub lacking : Result Tally AsideFault → (last : ℕ) → CommandFault → CommandFault
lacking (Ok tally) last told = if last == 0 then fault.Unprinted else told
lacking (Err stop) last told = if last == 0 || fails_output stop then aside_fault stop else told

-- what is told where the output was not handed to its device
abbrev pub lacking_output : Result Tally AsideFault → Marks → CommandFault
lacking_output answer marks =
    lacking answer (last_put marks (records_before answer)) (fault.Unflushed (last_put marks (records_before answer)))

-- what is told where the rejected records were not handed to theirs
abbrev pub lacking_rejects : Result Tally AsideFault → Marks → CommandFault
lacking_rejects answer marks = lacking answer marks.last (fault.UnflushedAside marks.last)

-- ---- a run that stops at the first record that does not convert

-- its answer as that of a run that sets records aside, and rejected none
abbrev pub as_aside : Result ℕ RunFault → Result Tally AsideFault
as_aside (Ok done) = Ok (record { converted = done; rejected = 0 })
as_aside (Err stopped) = Err (aside.Stopped stopped)

-- what is told of it where its last bytes were not handed to the device
abbrev pub unflushed_fault : Result ℕ RunFault → CommandFault
unflushed_fault answer = lacking_output (as_aside answer) unmarked

-- what it comes to behind the last flush of its output
abbrev pub finished_run : Result ℕ RunFault → Result ⊤ DeviceFault → Result ℕ CommandFault
finished_run (Ok done) (Ok flushed) = Ok done
finished_run (Err stopped) (Ok flushed) = Err (fault.Stopped stopped)
finished_run answer (Err failed) = Err (unflushed_fault answer)

-- What so many records that were handed over come to, behind what was done to put the output in its place: a part that is not on its device lacks
-- its last record, as an output that was not handed over does.
abbrev pub placed_output : ℕ → Result ⊤ OutputFault → Result ℕ CommandFault
placed_output done (Ok placed) = Ok done
placed_output done (Err place.NotSynced) = Err (unflushed_fault (Ok done))
placed_output done (Err place.NotRenamed) = Err fault.NotRenamed

-- ---- a run that sets rejected records aside

-- what it comes to behind the last flush of its outputs
abbrev pub finished_aside : Result Tally AsideFault → Marks → (output rejects : Result ⊤ DeviceFault) → Result Tally CommandFault
finished_aside answer marks (Err failed) rejects = Err (lacking_output answer marks)
finished_aside answer marks (Ok flushed) (Err failed) = Err (lacking_rejects answer marks)
finished_aside (Ok tally) marks (Ok flushed) (Ok kept) = Ok tally
finished_aside (Err stop) marks (Ok flushed) (Ok kept) = Err (aside_fault stop)

-- What so many records that were handed over come to, behind what was done to put the outputs in their places: a part that is not on its device lacks
-- its last record, as an output that was not handed over does.
abbrev pub placed_outputs : Tally → Marks → Result ⊤ PlacesFault → Result Tally CommandFault
placed_outputs tally marks (Ok placed) = Ok tally
placed_outputs tally marks (Err (places.Output place.NotSynced)) = Err (lacking_output (Ok tally) marks)
placed_outputs tally marks (Err (places.Output place.NotRenamed)) = Err fault.NotRenamed
placed_outputs tally marks (Err (places.Rejects place.NotSynced)) = Err (lacking_rejects (Ok tally) marks)
placed_outputs tally marks (Err (places.Rejects place.NotRenamed)) = Err fault.NotRenamedAside

-- What a run comes to whose outputs are the files themselves; or parts, of which this is what was done to put them in their places, where the run was
-- done.
abbrev pub placed_run : (atomic : Bool) → Result Tally CommandFault → Marks → Result ⊤ PlacesFault → Result Tally CommandFault
placed_run true (Ok tally) marks place = placed_outputs tally marks place
placed_run true (Err fault) marks place = Err fault
placed_run false outcome marks place = outcome

-- A run with this ending comes to this, where something was done to put its outputs in their places.
abbrev pub PlacesRun : (atomic : Bool) → AsideEnding → Result Tally CommandFault → Type 0
PlacesRun atomic ending outcome = (place : Result ⊤ PlacesFault)
    × (outcome ≡ placed_run atomic (finished_aside ending.answer ending.marks ending.flushed ending.aside_flushed) ending.marks place)
