use Rattle.cob_program_line.proofs.Apps.{told}
use Rattle.cob_program_line.proofs.read.whole_line.Goals as goal

pub returns-in_err-line-clause-lacks : goal.returns-in_err-line-clause-lacks
returns-in_err-line-clause-lacks c =
    told c.from_residual.result _ _ (λ fault is said says. c.in_err-line.ensures.lacks said.line says.command)
    c.from_residual.ensures.1
