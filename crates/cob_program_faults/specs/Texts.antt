-- What may go wrong with the files that a command reads.
use Rattle.std.specs.Prelude.{◌≡◌, ◌⊎◌, false, ⊤}
use Rattle.cob_convert.specs.declared.fault.PrepareFault.TheVariants as prepare
use Rattle.cob_copybook_entry.specs.declared.fault.BookRule.{BookRule}
use Rattle.cob_copybook_entry.specs.declared.fault.BookRule.TheVariants as rule
use Rattle.cob_convert_stream.specs.Reasons.{is_write_cause}
use Rattle.cob_program_faults.specs.declared.fault.FileName.{FileName}
use Rattle.cob_program_faults.specs.declared.fault.FileName.TheVariants as name
use Rattle.cob_program_faults.specs.declared.fault.CommandFault.{CommandFault}
use Rattle.cob_program_faults.specs.declared.fault.CommandFault.TheVariants as fault

-- The text in the file that this option names was not read: the file is not opened, a read failed, or memory was refused.
abbrev pub LacksText : FileName → CommandFault → Type 0
LacksText option told = (told ≡ fault.CannotOpen option) ⊎ (told ≡ fault.CannotRead option) ⊎ (told ≡ fault.Memory)

-- The file that this option names was not opened or not made, or memory was refused.
abbrev pub LacksFile : FileName → CommandFault → Type 0
LacksFile option told = (told ≡ fault.CannotOpen option) ⊎ (told ≡ fault.Memory)

-- A text of a conversion breaks a rule: want of memory is no text's fault.
abbrev pub RefusesText : CommandFault → Type 0
RefusesText (fault.Refused prepare.Memory) = ⊥
RefusesText (fault.Refused refused) = ⊤
RefusesText other = ⊥

-- The three texts of a conversion come to no converter: one was not read, one is refused, or memory was.
abbrev pub LacksConverter : CommandFault → Type 0
LacksConverter told = LacksText name.InBook told ⊎ LacksText name.OutBook told ⊎ LacksText name.Moves told ⊎ RefusesText told

-- the copybook that this option names has records that do not fit the record length that is said
abbrev pub HasOtherLength : FileName → CommandFault → Type 0
HasOtherLength option (fault.OtherLength named least lrecl) = named ≡ option
HasOtherLength option other = ⊥

-- The three texts of a conversion come to none of records of the length that is said: to no converter, or to one of other records.
abbrev pub LacksConversion : CommandFault → Type 0
LacksConversion told = LacksConverter told ⊎ HasOtherLength name.InBook told

-- a rule of copybooks, which want of memory is not
abbrev pub IsCopybookRule : BookRule → Type 0
IsCopybookRule rule.Memory = ⊥
IsCopybookRule broken = ⊤

-- the copybook of a listing breaks a rule
abbrev pub RefusesCopybook : CommandFault → Type 0
RefusesCopybook (fault.Book refused) = IsCopybookRule refused.rule
RefusesCopybook other = ⊥

-- The copybook of a listing comes to no layout: it was not read, it is refused, or memory was.
abbrev pub LacksLayout : CommandFault → Type 0
LacksLayout told = LacksText name.Book told ⊎ RefusesCopybook told

-- The copybook of a listing comes to no layout of records of the length that is said.
abbrev pub LacksRecordLayout : CommandFault → Type 0
LacksRecordLayout told = LacksLayout told ⊎ HasOtherLength name.Book told

-- A listing of records is not done: a record stopped it, or a read of one failed; a line was not printed; or memory was refused.
abbrev pub StopsListing : CommandFault → Type 0
StopsListing (fault.Stopped stopped) = is_write_cause stopped.cause ≡ false
StopsListing fault.Unprinted = ⊤
StopsListing fault.Memory = ⊤
StopsListing other = ⊥

-- The faults of a command that shows a record of a conversion: of its texts, of the file with the records, or what stops a run at a record up to the one that
-- is asked for; what it prints is not printed, or memory was refused.
abbrev pub StopsAtRecord : CommandFault → Type 0
StopsAtRecord told = LacksConversion told ⊎ LacksFile name.In told ⊎ StopsListing told
