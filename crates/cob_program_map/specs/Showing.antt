-- A record with a number as it is shown: what it becomes, and the places of both.
use Rattle.std.specs.Prelude.{◌≡◌, ◌⊎◌, ◌<◌, false, ⊤, ℕ, List, Result, Ok, Err}
use Rattle.cob_convert.specs.Run.{IsConverted}
use Rattle.cob_convert_record.specs.Conversion.{Conversion, in_length}
use Rattle.cob_copybook_tree.specs.Forests.{Forest}
use Rattle.cob_copybook_tree.specs.Nodes.{Resolved}
use Rattle.cob_layout.specs.Counting.{CountsOf, greatest_counts}
use Rattle.cob_layout.specs.Standing.{ArePlaces, Standing, StandsIn}
use Rattle.cob_layout_places.specs.declared.counts.CountFault.{CountFault}
use Rattle.cob_convert_stream.specs.Reasons.{is_write_cause}
use Rattle.cob_program_map.specs.Numbered.{StopsUpTo}
use Rattle.cob_records_parts.specs.Numbering.{AreOnly, HasNumber}
use Rattle.cob_program_map.specs.declared.shown.NotShown.{NotShown}
use Rattle.cob_program_map.specs.declared.shown.NotShown.TheVariants.{Fewer, Memory, Stops}
use Rattle.cob_program_map.specs.declared.shown.Shown.{Shown}

-- ---- what is shown

-- some count of a record with these bytes is not valid
abbrev pub LacksCounts : Forest Resolved → List ℕ → Type 0
LacksCounts tree bytes = (fault : CountFault) × CountsOf tree bytes (Err fault)

-- The places of a record with these bytes that is shown: those under its own counts where these are valid, and else those under the greatest counts.
abbrev pub ArePlacesShown : Forest Resolved → List ℕ → Standing → Type 0
ArePlacesShown tree bytes places = StandsIn tree bytes places ⊎ (LacksCounts tree bytes × ArePlaces tree (greatest_counts tree) places)

-- The record with this number is shown so: with what it becomes, and with the places of both.
pub record IsShown (conversion : Conversion) (number : ℕ) (shown : Shown) : Type 0 where
  pub numbered : shown.number ≡ number
  pub converted : IsConverted conversion (shown.input.items, shown.output.items)
  pub from : ArePlacesShown conversion.records.input shown.input.items shown.from
  pub to : ArePlacesShown conversion.records.output shown.output.items shown.to

-- The record with this number is not shown for this reason: memory was refused; there are fewer records; or one stops a run, which is no write that failed.
abbrev pub IsNotShown : ℕ → NotShown → Type 0
IsNotShown number Memory = ⊤
IsNotShown number (Fewer there) = there < number
IsNotShown number (Stops fault) = is_write_cause fault.cause ≡ false

-- ---- which of the records that come it is

-- What is told of the records that come where the one with this number is not shown: only so many come; or one up to it stops. Want of memory tells nothing.
abbrev pub TellsWhy : Conversion → ℕ → NotShown → List ℕ → List ℕ → Type 0
TellsWhy conversion number Memory bytes rest = ⊤
TellsWhy conversion number (Fewer there) bytes rest = AreOnly conversion.in_form (in_length conversion) there bytes rest
TellsWhy conversion number (Stops fault) bytes rest = StopsUpTo conversion number fault bytes rest

-- What the answer says where the record with a number is to be shown: it comes, and has the bytes that are shown; or why it is not shown.
abbrev pub FindsShown : Conversion → ℕ → Result Shown NotShown → List ℕ → List ℕ → Type 0
FindsShown conversion number (Ok shown) bytes rest = HasNumber conversion.in_form (in_length conversion) number shown.input.items bytes rest
FindsShown conversion number (Err why) bytes rest = TellsWhy conversion number why bytes rest

-- the same of the answer where it was read, and these bytes stand in the buffer
abbrev pub FindsToShow : Conversion → ℕ → List ℕ → Result (Unit {0}) NotShown → List ℕ → List ℕ → Type 0
FindsToShow conversion number input (Ok read) bytes rest = HasNumber conversion.in_form (in_length conversion) number input bytes rest
FindsToShow conversion number input (Err why) bytes rest = TellsWhy conversion number why bytes rest
