-- What a list comes to: what was shown, and whether all of it was handed to the device.
use Rattle.std.specs.Prelude.{◌≡◌, ℕ, List, Option, Result, Ok, Err, Bool, true, false, ⊤, ◌+◌}
use Rattle.cob_copybook_tree.specs.Forests.{Forest}
use Rattle.cob_copybook_tree.specs.Nodes.{Resolved}
use Rattle.cob_records.specs.Device.{Told}
use Rattle.cob_records.specs.declared.device.DeviceFault.{DeviceFault}
use Rattle.cob_records.specs.declared.records.Form.{Form}
use Rattle.cob_report_show.specs.Runs.{Shows}
use Rattle.cob_report_show.specs.declared.records.ShowFault.{ShowFault}
use Rattle.cob_report_show.specs.declared.records.ShowFault.TheVariants as show
use Rattle.cob_records_parts.specs.Comings.{chosen_coming}
use Rattle.cob_records_parts.specs.declared.choice.Stopped.{Stopped}
use Rattle.cob_records_parts.specs.declared.chosen.Chosen.{Chosen}
use Rattle.cob_records_parts.specs.declared.incoming.Incoming.{Incoming}
use Rattle.cob_records_parts.specs.declared.incoming.Incoming.TheVariants as incoming
use Rattle.cob_program_line.specs.declared.line.Listing.{Listing}
use Rattle.cob_program_line.specs.declared.line.Listing.TheVariants as listing
use Rattle.cob_program_ends.specs.Stops.{cause_told}
use Rattle.cob_records.specs.Progress.{kept_count}
use Rattle.cob_move_data.specs.declared.operands.Side.TheVariants.{In}
use Rattle.cob_convert_stream.specs.declared.fault.Cause.{Cause}
use Rattle.cob_convert_stream.specs.declared.fault.Cause.TheVariants.{Record, Limit as OverLimit}
use Rattle.cob_records_parts.specs.Cut.{most_records_cut}
use Rattle.cob_records_parts.specs.declared.piece.PiecesFault.{PiecesFault}
use Rattle.cob_records_parts.specs.declared.piece.PiecesFault.TheVariants.{Frame, Limit, Memory}
use Rattle.cob_program_faults.specs.Faults.{show_fault}
use Rattle.cob_program_faults.specs.declared.fault.CommandFault.{CommandFault}
use Rattle.cob_program_faults.specs.declared.fault.CommandFault.TheVariants as fault

-- Records were listed from a source that told these bytes to come, and tells that these are left.
abbrev pub Lists : Form → Forest Resolved → Result ℕ ShowFault → (coming left before now : Option (List ℕ)) → Type 0
Lists form tree answer coming left before now = Told coming left (Shows form tree answer before now)

-- Records were listed from a source that told these bytes to come, and that is let go behind the listing.
abbrev pub ListsFrom : Form → Forest Resolved → Result ℕ ShowFault → (coming before now : Option (List ℕ)) → Type 0
ListsFrom form tree answer coming before now = (left : Option (List ℕ)) × Lists form tree answer coming left before now

-- the fault of a listing of chosen records, which stopped here if it did
abbrev pub show_fault_told : Option Stopped → ShowFault → ShowFault
show_fault_told stop (show.Run told) = show.Run (cause_told stop told)
show_fault_told stop show.Memory = show.Memory

-- what a listing of chosen records comes to, whose source stopped here if it did
abbrev pub listing_told : Option Stopped → Result ℕ ShowFault → Result ℕ ShowFault
listing_told stop (Ok done) = Ok done
listing_told stop (Err fault) = Err (show_fault_told stop fault)

-- The chosen records of a source were listed: those that come of it, each by itself, and behind them the mark of a frame that can't be read. Where a read
-- failed, since a frame can't be read, the answer has the fault at which their source stopped.
abbrev pub ListsChosen : {S : Type 0} → (S → Option (List ℕ)) → Form → Forest Resolved → Result ℕ ShowFault → Chosen S → (before now : Option (List ℕ)) → Type 0
ListsChosen coming form tree answer chosen before now =
    (told : Result ℕ ShowFault) × (stop : Option Stopped) × (answer ≡ listing_told stop told) × ListsFrom form tree told (chosen_coming coming chosen) before now

-- All records that come of a source were listed, or those that are chosen.
abbrev pub ListsOver : {S : Type 0} → (S → Option (List ℕ)) → Form → Forest Resolved → Result ℕ ShowFault → Incoming S → (before now : Option (List ℕ)) → Type 0
ListsOver coming form tree answer (incoming.All source) before now = ListsFrom form tree answer (coming source) before now
ListsOver coming form tree answer (incoming.Some chosen) before now = ListsChosen coming form tree answer chosen before now

-- what a listing comes to, its records counted behind so many that are passed over
abbrev pub told_counted_behind : ℕ → Result ℕ CommandFault → Result ℕ CommandFault
told_counted_behind skip (Err (fault.Stopped stopped)) = Err (fault.Stopped (record stopped { number = kept_count (stopped.number + skip) }))
told_counted_behind skip outcome = outcome

-- a listing is for programs, which read each line as a record
abbrev pub is_for_programs : Listing → Bool
is_for_programs listing.Text = false
is_for_programs listing.Json = true
is_for_programs listing.Csv = true

-- what a list of entries comes to: where it was not handed over, a line was not printed
abbrev pub listed_entries : Result ⊤ DeviceFault → Result ⊤ CommandFault
listed_entries (Ok handed) = Ok handed
listed_entries (Err failed) = Err fault.Unprinted

-- what a listing of records comes to: where it was not handed over, a line was not printed, whatever stopped it
abbrev pub listed_records : Result (Result ℕ ShowFault) DeviceFault → Result ℕ CommandFault
listed_records (Ok (Ok done)) = Ok done
listed_records (Ok (Err stopped)) = Err (show_fault stopped)
listed_records (Err failed) = Err fault.Unprinted

-- what stops the cutting of a file at a record, as a conversion tells it
abbrev pub uncut_at : ℕ → Cause → CommandFault
uncut_at number cause = fault.Stopped (record { number = number; side = In; offset = 0; cause = cause; written = 0 })

-- what is told of a file that is not cut
abbrev pub uncut_fault : PiecesFault → CommandFault
uncut_fault (Frame number why) = uncut_at number (Record why)
uncut_fault Limit = uncut_at (most_records_cut + 1) OverLimit
uncut_fault Memory = fault.Memory
