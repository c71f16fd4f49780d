-- Which faults the command `lossless` can have.
use Rattle.std.specs.Prelude.{◌⊎◌, ⊤}
use Rattle.cob_convert.specs.declared.fault.PrepareFault.TheVariants as prepare
use Rattle.cob_program_faults.specs.declared.fault.FileName.TheVariants as name
use Rattle.cob_program_faults.specs.declared.fault.CommandFault.{CommandFault}
use Rattle.cob_program_faults.specs.declared.fault.CommandFault.TheVariants as fault
use Rattle.cob_program_faults.specs.Texts.{LacksText}

-- A text of two conversions is refused, or memory was: a copybook, the paragraph there or the one back.
abbrev pub RefusesConversion : CommandFault → Type 0
RefusesConversion (fault.Refused (prepare.InBook refused)) = ⊤
RefusesConversion (fault.Refused (prepare.OutBook refused)) = ⊤
RefusesConversion (fault.Paragraph name.There refused) = ⊤
RefusesConversion (fault.Paragraph name.Back refused) = ⊤
RefusesConversion fault.Memory = ⊤
RefusesConversion other = ⊥

-- The faults that `lossless` can have: a text was not read, or is refused.
abbrev pub MayEndLossless : CommandFault → Type 0
MayEndLossless told = LacksText name.InBook told ⊎ LacksText name.OutBook told ⊎ LacksText name.There told ⊎ LacksText name.Back told
    ⊎ RefusesConversion told
