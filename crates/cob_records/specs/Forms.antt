-- Records of a stream in any form, one behind another; and what is written of records that come one after another.
use Rattle.std.specs.Prelude.{◌≡◌, ℕ, ◌≤◌, ◌<◌, ◌+◌, ⊤, true, false, List, [], ◌∷◌, ◌++◌, length, map, Option, Result}
use Rattle.std.specs.List.{AllByRecursion, flat_map}
use Rattle.cob_limits.specs.Limits.{longest_block, longest_record}
use Rattle.cob_records.specs.declared.records.Form.{Form}
use Rattle.cob_records.specs.declared.records.Form.TheVariants.{Fixed, Variable, Blocked}
use Rattle.cob_records.specs.declared.records.RecordFault.{RecordFault}
use Rattle.cob_records.specs.declared.outlet.Outlet.{Outlet}
use Rattle.cob_records.specs.declared.outlet.Outlet.TheVariants.{UnblockedFixed, UnblockedVariable, Blocks}
use Rattle.cob_records.specs.Frame.{Reads, framed, is_read_failure, is_unblocked}
use Rattle.cob_records.specs.Blocks.{AreBlocksOf, IsBlockSize, closed_block, closed_by, empty, with_frame}
use Rattle.cob_records.specs.BlockReads.{ComesInBlock, ReadsInBlock}
use Rattle.cob_records.specs.Unique.{record_in}

-- the greatest size of the blocks of a form; without blocks nothing bounds it but the longest block
abbrev pub block_size : Form → ℕ
block_size Fixed = longest_block
block_size Variable = longest_block
block_size (Blocked most) = most

-- the blocks of a form, if there are blocks, may have their greatest size
abbrev pub HasBlockSize : Form → Type 0
HasBlockSize form = IsBlockSize (block_size form)

-- ---- what comes

-- the record's frame comes first, where the open block holds so many bytes before it and so many behind it; without blocks none is open
abbrev pub ComesFirst : Form → ℕ → List ℕ → List ℕ → ℕ → List ℕ → Type 0
ComesFirst Fixed left body bytes after rest = (bytes ≡ framed Fixed body ++ rest) × (after ≡ left)
ComesFirst Variable left body bytes after rest = (bytes ≡ framed Variable body ++ rest) × (after ≡ left)
ComesFirst (Blocked most) left body bytes after rest = ComesInBlock most left body bytes after rest

-- these records come one behind another
abbrev pub Come : Form → ℕ → List (List ℕ) → List ℕ → ℕ → List ℕ → Type 0
Come form left [] bytes after rest = (bytes ≡ rest) × (after ≡ left)
Come form left (body ∷ bodies) bytes after rest =
    (mid : ℕ) × (more : List ℕ) × ComesFirst form left body bytes mid more × Come form mid bodies more after rest

-- what the answer to a call that reads the next record says, in any form, where the open block holds so many bytes before it and so many behind it
abbrev pub ReadsInForm : Form → (greatest left : ℕ) → List ℕ → Result (Option ℕ) RecordFault → ℕ → List ℕ → List ℕ → Type 0
ReadsInForm Fixed greatest left slice answer after bytes rest = Reads Fixed greatest slice answer bytes rest × (after ≡ left)
ReadsInForm Variable greatest left slice answer after bytes rest = Reads Variable greatest slice answer bytes rest × (after ≡ left)
ReadsInForm (Blocked most) greatest left slice answer after bytes rest = ReadsInBlock most greatest left slice answer after bytes rest

-- ---- what is written

-- an outlet that no record went to
abbrev pub outlet_of : Form → Outlet
outlet_of Fixed = UnblockedFixed
outlet_of Variable = UnblockedVariable
outlet_of (Blocked size) = Blocks (empty size)

-- what one more record writes: its frame, or in blocks the open one, where the record doesn't fit into it
abbrev pub written_by : Outlet → List ℕ → List ℕ
written_by UnblockedFixed body = framed Fixed body
written_by UnblockedVariable body = framed Variable body
written_by (Blocks b) body = closed_by b (framed Variable body)

-- the outlet with one more record
abbrev pub outlet_with : Outlet → List ℕ → Outlet
outlet_with UnblockedFixed body = UnblockedFixed
outlet_with UnblockedVariable body = UnblockedVariable
outlet_with (Blocks b) body = Blocks (with_frame b (framed Variable body))

-- a record that the outlet takes: in blocks one whose frame has room in a block
abbrev pub FitsIn : Outlet → List ℕ → Type 0
FitsIn UnblockedFixed body = ⊤
FitsIn UnblockedVariable body = ⊤
FitsIn (Blocks b) body = 8 + length body ≤ b.size

-- records of this length may be written in this form: in blocks their frames have room in a block
abbrev pub FitsForm : Form → ℕ → Type 0
FitsForm Fixed greatest = ⊤
FitsForm Variable greatest = ⊤
FitsForm (Blocked size) greatest = 8 + greatest ≤ size

-- what is still to be written, where no record comes any more
abbrev pub pending_in : Outlet → List ℕ
pending_in UnblockedFixed = []
pending_in UnblockedVariable = []
pending_in (Blocks b) = closed_block b.frames

-- how many records it holds back
abbrev pub records_held : Outlet → ℕ
records_held UnblockedFixed = 0
records_held UnblockedVariable = 0
records_held (Blocks b) = b.held

-- the outlet, where it holds nothing back any more
abbrev pub emptied : Outlet → Outlet
emptied UnblockedFixed = UnblockedFixed
emptied UnblockedVariable = UnblockedVariable
emptied (Blocks b) = Blocks (empty b.size)

-- the outlet with records that came one after another
abbrev pub outlet_with_all : Outlet → List (List ℕ) → Outlet
outlet_with_all o [] = o
outlet_with_all o (body ∷ bodies) = outlet_with_all (outlet_with o body) bodies

-- what these records wrote
abbrev pub written_by_all : Outlet → List (List ℕ) → List ℕ
written_by_all o [] = []
written_by_all o (body ∷ bodies) = written_by o body ++ written_by_all (outlet_with o body) bodies

-- all that is written of these records, to the last block
abbrev pub written_of : Form → List (List ℕ) → List ℕ
written_of form bodies = written_by_all (outlet_of form) bodies ++ pending_in (outlet_with_all (outlet_of form) bodies)

-- ---- what these come to

-- a record has a byte, and its frame has room in a block of so many bytes
abbrev pub MayBeBlocked : ℕ → List ℕ → Type 0
MayBeBlocked size body = (0 < length body) × (8 + length body ≤ size)

-- Without blocks, records that come are their frames, one behind another, and so are those that are written; in blocks, what is written of records
-- are the greedy blocks of their frames.
pub record FormsAreFrames : Type 0 where
  pub come : (form : Form) (left : ℕ) (bodies : List (List ℕ)) (bytes : List ℕ) (after : ℕ) (rest : List ℕ) → is_unblocked form ≡ true
      → Come form left bodies bytes after rest → (bytes ≡ flat_map (framed form) bodies ++ rest) × (after ≡ left)
  pub written : (form : Form) (bodies : List (List ℕ)) → is_unblocked form ≡ true → written_of form bodies ≡ flat_map (framed form) bodies
  pub blocks : (size : ℕ) (bodies : List (List ℕ)) → AllByRecursion (MayBeBlocked size) bodies
      → AreBlocksOf size (map (framed Variable) bodies) (written_of (Blocked size) bodies)

-- two readings of the same bytes in any form, of which none failed, have one answer, one record, one block behind it and one rest
abbrev pub NextIsOne : Type 0
NextIsOne = (form : Form) (greatest left : ℕ) (bytes slice other rest over : List ℕ) (answer second : Result (Option ℕ) RecordFault) (after later : ℕ)
    → HasBlockSize form → 0 < greatest → greatest ≤ longest_record → ReadsInForm form greatest left slice answer after bytes rest
    → ReadsInForm form greatest left other second later bytes over → is_read_failure answer ≡ false → is_read_failure second ≡ false
    → (answer ≡ second) × (record_in slice answer ≡ record_in other second) × (after ≡ later) × (rest ≡ over)
