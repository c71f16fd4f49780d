-- Whether a record that came is one of its layout.
use Rattle.std.specs.Prelude.{◌≡◌, ◌≢◌, ◌⊎◌, ℕ, true, false, List, length, Ok, Err, Result}
use Rattle.cob_records.specs.declared.records.Form.{Form}
use Rattle.cob_records.specs.declared.records.Form.TheVariants.{Fixed, Variable, Blocked}
use Rattle.cob_copybook_tree.specs.Forests.{Forest}
use Rattle.cob_copybook_tree.specs.Nodes.{Resolved}
use Rattle.cob_layout_places.specs.declared.counts.CountFault.{CountFault}
use Rattle.cob_layout.specs.Counting.{CountsOf}
use Rattle.cob_layout.specs.Storage.{IsCurrent, current_length, greatest_length}
use Rattle.cob_convert_stream.specs.declared.misfit.MeasureFault.{MeasureFault}
use Rattle.cob_convert_stream.specs.declared.misfit.MeasureFault.TheVariants.{Count, Length}

-- what the counts of a storage's bytes give: a length where all are valid, or the fault of the first that isn't
abbrev pub GivesLength : Forest Resolved → List ℕ → Result ℕ CountFault → Type 0
GivesLength tree bytes (Ok current) = (counts : List ℕ) × CountsOf tree bytes (Ok counts) × (current ≡ current_length counts tree)
GivesLength tree bytes (Err fault) = CountsOf tree bytes (Err fault)

-- A record that came is one of its layout: in form f it has the greatest length, and no count is looked at; in forms v and b its own counts are
-- valid, and it has the length that they give.
abbrev pub IsSized : Form → Forest Resolved → List ℕ → Type 0
IsSized Fixed tree input = length input ≡ greatest_length tree
IsSized Variable tree input = IsCurrent tree input
IsSized (Blocked most) tree input = IsCurrent tree input

-- A record that came whole has the length that its counts give, or of form f, where it is as long as at most, whatever they say.
abbrev pub IsFitting : Form → (current count : ℕ) → Type 0
IsFitting Fixed current count = Unit {0}
IsFitting Variable current count = count ≡ current
IsFitting (Blocked most) current count = count ≡ current

-- the first count of a record that isn't valid stands within it, at this offset
abbrev pub IsMiscounted : Forest Resolved → List ℕ → ℕ → Type 0
IsMiscounted tree input offset = (fault : CountFault) × CountsOf tree input (Err fault) × (fault.short ≡ false) × (offset ≡ fault.offset)

-- the first count of a record that isn't valid ends past it, or all are valid and it has another length than they give
abbrev pub IsMissized : Forest Resolved → List ℕ → Type 0
IsMissized tree input =
    ((fault : CountFault) × CountsOf tree input (Err fault) × (fault.short ≡ true))
    ⊎ ((counts : List ℕ) × CountsOf tree input (Ok counts) × (length input ≢ current_length counts tree))

-- a record with a descriptor isn't one of its layout, for a count or for its length
abbrev pub IsMisfit : Forest Resolved → List ℕ → MeasureFault → Type 0
IsMisfit tree input (Count offset) = IsMiscounted tree input offset
IsMisfit tree input Length = IsMissized tree input

-- A record of form v or b isn't one of its layout; a frame of form f can't hold another than one of the greatest length.
abbrev pub IsMeasureFault : Form → Forest Resolved → List ℕ → MeasureFault → Type 0
IsMeasureFault Fixed tree input why = ⊥
IsMeasureFault Variable tree input why = IsMisfit tree input why
IsMeasureFault (Blocked most) tree input why = IsMisfit tree input why
