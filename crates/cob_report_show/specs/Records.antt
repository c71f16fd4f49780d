-- Which records are shown, and what stops them.
use Rattle.std.specs.Prelude.{◌≡◌, ℕ, ◌<◌, ◌≤◌, Bool, false, List, length, IfSome, Option, Ok, Err, Result}
use Rattle.cob_convert_stream.specs.declared.fault.Cause.{Cause}
use Rattle.cob_convert_stream.specs.declared.fault.Cause.TheVariants.{Count, Limit, Record}
use Rattle.cob_copybook_tree.specs.Forests.{Forest}
use Rattle.cob_copybook_tree.specs.Nodes.{Resolved}
use Rattle.cob_layout.specs.Standing.{Standing, ArePlaces}
use Rattle.cob_layout.specs.Storage.{current_length}
use Rattle.cob_report_show.specs.declared.records.ShowFault.{ShowFault}
use Rattle.cob_report_show.specs.declared.records.ShowFault.TheVariants.{Memory, Run}

-- a record stopped it, for a cause of this kind
abbrev pub stopped_by : (Cause → Bool) → Result ℕ ShowFault → Bool
stopped_by is (Ok number) = false
stopped_by is (Err Memory) = false
stopped_by is (Err (Run fault)) = is fault.cause

-- what stops a record: a count that is not valid, at its offset, or a frame, or the number of records, which have none
abbrev pub IsStop : ℕ → Cause → Type 0
IsStop offset Count = Unit {0}
IsStop offset Limit = offset ≡ 0
IsStop offset (Record fault) = offset ≡ 0
IsStop offset _ = ⊥

-- a record stopped it, which has a number from 1 on, or memory was refused
abbrev pub IsShowFault : ShowFault → Type 0
IsShowFault Memory = Unit {0}
IsShowFault (Run fault) = (0 < fault.number) × IsStop fault.offset fault.cause

-- the entries of a record stand so under its counts, and so many bytes hold it
abbrev pub HoldsRecord : Forest Resolved → Standing → ℕ → Type 0
HoldsRecord tree s count = ArePlaces tree s.counts s × (current_length s.counts tree ≤ count)

-- so they do within a slice, if a record of so many bytes came into it
abbrev pub HoldsAny : Forest Resolved → Standing → List ℕ → Option ℕ → Type 0
HoldsAny tree s slot found = IfSome found (λ count. (count ≤ length slot) × HoldsRecord tree s count)
