-- Which file of the system a name leads to, and when making one file loses what another holds.
use Rattle.std.specs.Prelude.{◌≡◌, true, Some, Option}
use Rattle.cob_program_faults.specs.declared.identity.FileIdentity.{FileIdentity}

-- Two identities are those of one file: the same device has it under the same number.
abbrev pub IsSameFile : FileIdentity → FileIdentity → Type 0
IsSameFile one other = (one.device ≡ other.device) × (one.number ≡ other.number)

-- Writing to an output loses what another file holds: they are one file, and it is one that keeps what was written to it. A terminal or a pipe
-- that is both loses nothing. A name that leads to no file is no other's.
abbrev pub Loses : Option FileIdentity → Option FileIdentity → Type 0
Loses (Some output) (Some other) = IsSameFile output other × (output.keeps ≡ true)
Loses output other = ⊥

-- two names lead to one file
abbrev pub LeadToOneFile : Option FileIdentity → Option FileIdentity → Type 0
LeadToOneFile (Some one) (Some other) = IsSameFile one other
LeadToOneFile one other = ⊥
