use Rattle.std.proofs.Common.{◌∙◌, List, ap, inl, map, refl, subst}
use Rattle.std.specs.Prelude.{string_bytes}
use Rattle.clap.specs.Words.{Text}
use Rattle.cob_program_commands.specs.Commands.{IsEndOfMeant, Refused}
use Rattle.cob_program_line.specs.declared.fault.LineFault.TheVariants.{Memory}
use Rattle.cob_program_commands.proofs.commands.answer.Goals as goal

pub returns-in-Ok : goal.returns-in-Ok
returns-in-Ok g c =
    subst (λ (words : List Text). IsEndOfMeant words c.answer_meant.result) (ap (map string_bytes) c.as_slice.ensures.value ∙ c.in-Ok.ensures) c.answer_meant.ensures

pub returns-in-Err : goal.returns-in-Err
returns-in-Err g c = Refused Memory (inl refl) c.refuse.ensures
