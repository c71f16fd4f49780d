-- What two copybooks and two paragraphs come to.
use Rattle.std.specs.Prelude.{◌≡◌, ◌⊎◌, ℕ, Bool, true, false, IsTrue, List}
use Rattle.std.specs.Bool.{Decides}
use Rattle.cob_records.specs.declared.records.Form.TheVariants.{Fixed}
use Rattle.cob_convert_record.specs.Conversion.{Conversion}
use Rattle.cob_convert.specs.Means.{IsPrepareRefusal, Means}
use Rattle.cob_convert.specs.declared.fault.PrepareFault.{PrepareFault}
use Rattle.cob_convert.specs.declared.fault.PrepareFault.TheVariants as prepare
use Rattle.cob_back_runs.specs.Keeps.{AreLossless, Keeps}
use Rattle.cob_program_faults.specs.declared.fault.FileName.TheVariants as name
use Rattle.cob_program_faults.specs.declared.fault.CommandFault.{CommandFault}
use Rattle.cob_program_faults.specs.declared.fault.CommandFault.TheVariants as fault
use Rattle.cob_program_texts.specs.declared.answer.Answer.{Answer}
use Rattle.cob_program_texts.specs.declared.answer.Answer.TheVariants as answer

-- whether an answer is yes
abbrev pub is_yes : Answer → Bool
is_yes answer.Yes = true
is_yes (answer.No loss) = false

-- The answer to two copybooks and two paragraphs: they say a conversion there and one back, with the copybooks exchanged, and the answer is whether
-- these lose nothing; where it is yes, the conversion back keeps what the other one converts.
pub record IsAnswer (in_book out_book there back : List ℕ) (answer : Bool) : Type 0 where
  pub forth : Conversion
  pub home : Conversion
  pub means : Means in_book out_book there forth
  pub means_back : Means out_book in_book back home
  pub exactly : Decides answer (AreLossless forth home)
  pub keeps : IsTrue answer → Keeps forth home

-- what is told where the conversion there is refused: its paragraph by the option that names it, and want of memory as that
abbrev pub refusal_there : PrepareFault → CommandFault
refusal_there (prepare.InBook refused) = fault.Refused (prepare.InBook refused)
refusal_there (prepare.OutBook refused) = fault.Refused (prepare.OutBook refused)
refusal_there (prepare.Moves refused) = fault.Paragraph name.There refused
refusal_there (prepare.Block least) = fault.Refused (prepare.Block least)
refusal_there prepare.Memory = fault.Memory

-- what is told where the conversion back is refused, whose input is what the other one's output is: each text by the option that names it
abbrev pub refusal_back : PrepareFault → CommandFault
refusal_back (prepare.InBook refused) = fault.Refused (prepare.OutBook refused)
refusal_back (prepare.OutBook refused) = fault.Refused (prepare.InBook refused)
refusal_back (prepare.Moves refused) = fault.Paragraph name.Back refused
refusal_back (prepare.Block least) = fault.Refused (prepare.Block least)
refusal_back prepare.Memory = fault.Memory

-- three texts are refused for a conversion of records of fixed length: one of them breaks a rule, or memory was refused
pub record IsRefusal (refused : PrepareFault) (in_book out_book paragraph : List ℕ) : Type 0 where
  pub breaks : IsPrepareRefusal Fixed refused in_book out_book paragraph

-- this is told because the texts are refused for the conversion there
pub record IsRefusedThere (told : CommandFault) (in_book out_book there : List ℕ) : Type 0 where
  pub refused : PrepareFault
  pub breaks : IsRefusal refused in_book out_book there
  pub told_so : told ≡ refusal_there refused

-- this is told because the texts are refused for the conversion back
pub record IsRefusedBack (told : CommandFault) (in_book out_book back : List ℕ) : Type 0 where
  pub refused : PrepareFault
  pub breaks : IsRefusal refused out_book in_book back
  pub told_so : told ≡ refusal_back refused

-- Two copybooks and two paragraphs are refused: for the conversion there; or, where they say that one, for the one back.
abbrev pub RefusesTexts : CommandFault → List ℕ → List ℕ → List ℕ → List ℕ → Type 0
RefusesTexts told in_book out_book there back = IsRefusedThere told in_book out_book there
    ⊎ ((forth : Conversion) × Means in_book out_book there forth × IsRefusedBack told in_book out_book back)
