-- Which records a command reads.
use Rattle.std.specs.Prelude.{◌≡◌, ℕ, true, None, Option}
use Rattle.cob_records.specs.Files.{names_standard}
use Rattle.cob_records.specs.declared.records.Form.{Form}
use Rattle.cob_records_parts.specs.Choices.{is_unbounded, last_behind}
use Rattle.cob_records_parts.specs.declared.incoming.Incoming.{Incoming}
use Rattle.cob_records_parts.specs.declared.incoming.Incoming.TheVariants as incoming
use Rattle.cob_records_parts.specs.declared.part.StreamPart.{StreamPart}
use Rattle.cob_program_ends.specs.Jumps.{JumpsIn}
use Rattle.cob_program_ends.specs.declared.records.WantedRecords.{WantedRecords}

-- the part of the file that is wanted, before any record of it is jumped over
abbrev pub part_before : WantedRecords → StreamPart
part_before wanted = record { from = wanted.from; bytes = wanted.bytes; skip = wanted.choice.skip }

-- Of that part records are jumped over, as the size allows that the system tells, or none where it tells none, as of standard input.
abbrev pub JumpsOver : WantedRecords → StreamPart → Type 0
JumpsOver wanted now = (size : Option ℕ) × (names_standard wanted.input.now ≡ true → size ≡ None)
    × JumpsIn wanted.form wanted.greatest size (part_before wanted) now

-- Records of this form and of at most this length are given: all, where no number of them is asked for and none is left to be passed over; else those
-- behind the ones that are passed over, as many as are asked for.
abbrev pub GivesWanted : {R : Type 0} → Form → (greatest : ℕ) → (records : Option ℕ) → Incoming R → Type 0
GivesWanted form greatest records (incoming.All source) = is_unbounded records ≡ true
GivesWanted form greatest records (incoming.Some source) =
    (source.walk.form ≡ form) × (source.walk.greatest ≡ greatest) × (source.walk.last ≡ last_behind source.walk.skip records)

-- so many records are still passed over of what is opened: none, where all are given
abbrev pub PassesOverStill : {R : Type 0} → (skip : ℕ) → Incoming R → Type 0
PassesOverStill skip (incoming.All source) = skip ≡ 0
PassesOverStill skip (incoming.Some source) = source.walk.skip ≡ skip

-- Of the records before the chosen ones some are jumped over, and all others are passed over.
abbrev pub SkipsWanted : {R : Type 0} → WantedRecords → Incoming R → Type 0
SkipsWanted wanted source = (part : StreamPart) × JumpsOver wanted part × PassesOverStill part.skip source
