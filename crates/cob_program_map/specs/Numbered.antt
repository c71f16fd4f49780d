-- The record with a number, and what it becomes.
use Rattle.std.specs.Prelude.{◌≡◌, ◌<◌, ◌≤◌, ◌+◌, ⊤, ℕ, List, length, take, Result, Ok, Err}
use Rattle.cob_convert.specs.Outcomes.{IsRejected}
use Rattle.cob_convert.specs.Run.{IsConverted, ReadStops, RecordStops}
use Rattle.cob_convert_record.specs.Conversion.{Conversion, in_length}
use Rattle.cob_convert_stream.specs.Reasons.{reason_of}
use Rattle.cob_convert_stream.specs.declared.fault.RunFault.{RunFault}
use Rattle.cob_records_parts.specs.Numbering.{AreOnly, HasNumber, HavePassed}
use Rattle.cob_records_parts.specs.declared.numbered.Numbered.{Numbered}
use Rattle.cob_records_parts.specs.declared.numbered.Numbered.TheVariants as numbered
use Rattle.cob_program_map.specs.declared.record.FoundRecord.{FoundRecord}
use Rattle.cob_program_map.specs.declared.record.FoundRecord.TheVariants.{Fewer, Record}
use Rattle.cob_program_map.specs.declared.record.Lengths.{Lengths}

-- ---- what stands in the buffers

-- a record of the input stands at the front of the first buffer, and what it becomes at the front of the second
pub record StandConverted (conversion : Conversion) (input output : List ℕ) (lengths : Lengths) : Type 0 where
  pub within : lengths.input ≤ length input
  pub made : lengths.output ≤ length output
  pub converted : IsConverted conversion (take lengths.input input, take lengths.output output)

-- where a record is found, it stands so with what it becomes
abbrev pub ShowsRecord : Conversion → List ℕ → List ℕ → FoundRecord → Type 0
ShowsRecord conversion input output (Record lengths) = StandConverted conversion input output lengths
ShowsRecord conversion input output (Fewer there) = ⊤

-- what is found, without what the record becomes
abbrev pub numbered_of : FoundRecord → Numbered
numbered_of (Record lengths) = numbered.Record lengths.input
numbered_of (Fewer there) = numbered.Fewer there

-- ---- which of the records that come it is

-- A record up to the one with this number stops a run, behind those that came whole: one before it by its frame alone.
pub record StopsUpTo (conversion : Conversion) (number : ℕ) (fault : RunFault) (bytes rest : List ℕ) : Type 0 where
  pub earlier : ℕ
  pub opened : ℕ
  pub left : List ℕ
  pub next : fault.number ≡ earlier + 1
  pub most : fault.number ≤ number
  pub passed : HavePassed conversion.in_form (in_length conversion) earlier opened bytes left
  pub stops : RecordStops conversion (record { opened = opened; left = left; rest = rest }) (reason_of fault)
  pub frame : fault.number < number → ReadStops conversion (record { opened = opened; left = left; rest = rest }) (reason_of fault)

-- What the answer says where the record with a number is looked for: it comes, and stands in the first buffer; only so many come; or one up to it stops.
abbrev pub FindsRecord : Conversion → ℕ → List ℕ → Result FoundRecord RunFault → List ℕ → List ℕ → Type 0
FindsRecord conversion number input (Ok (Record lengths)) bytes rest = HasNumber conversion.in_form (in_length conversion) number (take lengths.input input) bytes rest
FindsRecord conversion number input (Ok (Fewer there)) bytes rest = AreOnly conversion.in_form (in_length conversion) there bytes rest
FindsRecord conversion number input (Err fault) bytes rest = StopsUpTo conversion number fault bytes rest

-- A record that came whole, which has this number, stops a run: it isn't one of its layout, or its conversion stops.
abbrev pub StopsWhole : Conversion → List ℕ → ℕ → RunFault → Type 0
StopsWhole conversion body number fault = (fault.number ≡ number) × IsRejected conversion body (reason_of fault)
