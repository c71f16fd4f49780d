use Rattle.std.proofs.Common.{◌⊎◌, inl, inr}
use Rattle.cob_program_commands.specs.Commands.{CarriedOut, Refused}
use Rattle.cob_program_commands.proofs.commands.answer_meant.Goals as goal

pub returns-in-Ok : goal.returns-in-Ok
returns-in-Ok g c = CarriedOut c.in-Ok.said c.in-Ok.ensures.options c.perform.ensures

-- two facts that hold unless a third does hold together unless it does
together : {M A B : Type 0} → M ⊎ A → M ⊎ B → M ⊎ (A × B)
together (inl m) b = inl m
together (inr a) (inl m) = inl m
together (inr a) (inr b) = inr (a, b)

pub returns-in-Err : goal.returns-in-Err
returns-in-Err g c = Refused c.in-Err.fault (together c.in-Err.ensures.refused c.in-Err.ensures.fault) c.refuse.ensures
