-- Records of a file that are jumped over.
use Rattle.std.specs.Prelude.{◌≡◌, ℕ, List, length, None, Some, Option}
use Rattle.cob_records.specs.declared.records.Form.{Form}
use Rattle.cob_records.specs.declared.records.Form.TheVariants.{Fixed, Variable, Blocked}
use Rattle.cob_records_parts.specs.Parts.{IsBehindWhole}
use Rattle.cob_records_parts.specs.declared.part.StreamPart.{StreamPart}

-- Of records of one length in a file whose size is known the first whole ones are jumped over, as many as are passed over; else none.
abbrev pub JumpsIn : Form → (greatest : ℕ) → Option ℕ → StreamPart → StreamPart → Type 0
JumpsIn Fixed greatest (Some size) before now = (file : List ℕ) → length file ≡ size → IsBehindWhole greatest before now file
JumpsIn Fixed greatest None before now = now ≡ before
JumpsIn Variable greatest size before now = now ≡ before
JumpsIn (Blocked most) greatest size before now = now ≡ before
