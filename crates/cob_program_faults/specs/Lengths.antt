-- Record lengths of files, as LRECL says them on z/OS.
use Rattle.std.specs.Prelude.{◌≡◌, ◌≤◌, ◌+◌, ◌%◌, ◌==◌, ℕ, Bool, Option, None, Some, not, ⊤}
use Rattle.cob_records.specs.declared.records.Form.{Form}
use Rattle.cob_records.specs.declared.records.Form.TheVariants.{Fixed, Variable, Blocked}
use Rattle.cob_program_faults.specs.declared.fault.FileName.{FileName}
use Rattle.cob_program_faults.specs.declared.fault.CommandFault.{CommandFault}
use Rattle.cob_program_faults.specs.declared.fault.CommandFault.TheVariants as fault

-- The least record length of a file whose records have at most this length: in form f it is theirs, and else the record descriptor word of four bytes
-- counts too.
abbrev pub least_lrecl : Form → ℕ → ℕ
least_lrecl Fixed greatest = greatest
least_lrecl Variable greatest = greatest + 4
least_lrecl (Blocked most) greatest = greatest + 4

-- Records of at most this length stand in a file of this record length: in form f each of them has it, and else none is longer with its descriptor word.
abbrev pub Fits : Form → (lrecl greatest : ℕ) → Type 0
Fits Fixed lrecl greatest = lrecl ≡ greatest
Fits Variable lrecl greatest = greatest + 4 ≤ lrecl
Fits (Blocked most) lrecl greatest = greatest + 4 ≤ lrecl

-- they do where a record length is said
abbrev pub FitsLrecl : Form → Option ℕ → ℕ → Type 0
FitsLrecl form None greatest = ⊤
FitsLrecl form (Some lrecl) greatest = Fits form lrecl greatest

-- What is told of the copybook that this option names, where its records do not fit the record length that is said: the least that they need, and this.
pub record IsOtherLength (option : FileName) (form : Form) (said : Option ℕ) (greatest : ℕ) (told : CommandFault) : Type 0 where
  pub lrecl : ℕ
  pub is_said : said ≡ Some lrecl
  pub unfit : Fits form lrecl greatest → ⊥
  pub is : told ≡ fault.OtherLength option (least_lrecl form greatest) lrecl

-- bytes stand behind the last whole record of so many bytes, where each record has this length
abbrev pub is_uneven : (size length : ℕ) → Bool
is_uneven size length = not (size % length == 0)
