-- Which faults the command `draft` can have.
use Rattle.std.specs.Prelude.{◌⊎◌}
use Rattle.cob_convert.specs.declared.fault.PrepareFault.TheVariants as prepare
use Rattle.cob_program_faults.specs.declared.fault.FileName.TheVariants as name
use Rattle.cob_program_faults.specs.declared.fault.CommandFault.{CommandFault}
use Rattle.cob_program_faults.specs.declared.fault.CommandFault.TheVariants as fault
use Rattle.cob_program_faults.specs.Texts.{IsCopybookRule, LacksText}

-- one of the two copybooks breaks a rule
abbrev pub RefusesBook : CommandFault → Type 0
RefusesBook (fault.Refused (prepare.InBook refused)) = IsCopybookRule refused.rule
RefusesBook (fault.Refused (prepare.OutBook refused)) = IsCopybookRule refused.rule
RefusesBook other = ⊥

-- The faults that `draft` can have: a copybook was not read, or is refused, or memory was.
abbrev pub MayEndDraft : CommandFault → Type 0
MayEndDraft told = LacksText name.InBook told ⊎ LacksText name.OutBook told ⊎ RefusesBook told
