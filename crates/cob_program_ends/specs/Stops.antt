-- What is told where the records that a command reads are not there.
use Rattle.std.specs.Prelude.{◌≡◌, ◌⊎◌, ◌+◌, ℕ, false, Some, Option}
use Rattle.cob_move_data.specs.declared.operands.Side.TheVariants.{In}
use Rattle.cob_records.specs.Progress.{kept_count}
use Rattle.cob_records.specs.declared.records.RecordFault.TheVariants.{ReadFailed}
use Rattle.cob_convert_stream.specs.Reasons.{is_write_cause}
use Rattle.cob_convert_stream.specs.declared.fault.Cause.{Cause}
use Rattle.cob_convert_stream.specs.declared.fault.Cause.TheVariants as cause
use Rattle.cob_convert_stream.specs.declared.fault.RunFault.{RunFault}
use Rattle.cob_records_parts.specs.declared.choice.ChoiceFault.{ChoiceFault}
use Rattle.cob_records_parts.specs.declared.choice.ChoiceFault.TheVariants as choice
use Rattle.cob_records_parts.specs.declared.choice.Stopped.{Stopped}
use Rattle.cob_program_faults.specs.declared.fault.FileName.TheVariants as name
use Rattle.cob_program_faults.specs.declared.fault.CommandFault.{CommandFault}
use Rattle.cob_program_faults.specs.declared.fault.CommandFault.TheVariants as fault
use Rattle.cob_program_faults.specs.Texts.{LacksFile}
use Rattle.cob_program_ends.specs.Counted.{number_from}

-- the frame of a record can't be read
abbrev pub LacksFrame : CommandFault → Type 0
LacksFrame (fault.Stopped stopped) = is_write_cause stopped.cause ≡ false
LacksFrame other = ⊥

-- The records that a command reads are not there: their file is not opened, the frame of one that is passed over can't be read, or memory was refused.
abbrev pub LacksRecords : CommandFault → Type 0
LacksRecords told = LacksFile name.In told ⊎ LacksFrame told

-- Where a record that is passed over stops a command, by its number in the whole file: the piece begins with the record of the number `first`, and so many
-- of its records were jumped over before.
abbrev pub stop_told : (first jumped : ℕ) → Stopped → CommandFault
stop_told first jumped stop = fault.Stopped (record {
  number = number_from first (kept_count (stop.number + jumped));
  side = In;
  offset = 0;
  cause = cause.Record stop.fault;
  written = 0;
})

-- what is told where none of the chosen records comes
abbrev pub unchosen : (first jumped : ℕ) → ChoiceFault → CommandFault
unchosen first jumped (choice.Stopped stop) = stop_told first jumped stop
unchosen first jumped choice.Memory = fault.Memory

-- what is told where the first read of the records fails
abbrev pub unread : (first jumped : ℕ) → CommandFault
unread first jumped = stop_told first jumped (record { number = 1; fault = ReadFailed })

-- why a run over chosen records stopped: where its read failed because a frame can't be read, that is why
abbrev pub cause_of_stop : Option Stopped → Cause → Cause
cause_of_stop (Some stop) (cause.Record ReadFailed) = cause.Record stop.fault
cause_of_stop stop why = why

-- the fault of a run over chosen records
abbrev pub cause_told : Option Stopped → RunFault → RunFault
cause_told stop told = record told { cause = cause_of_stop stop told.cause }
