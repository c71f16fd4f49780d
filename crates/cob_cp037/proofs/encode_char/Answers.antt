use Rattle.std.proofs.Common.{ap, Some, arith}
use Rattle.cob_cp037.proofs.encode_char.Goals as goal

pub returns-in-0-clause-only : goal.returns-in-0-clause-only
returns-in-0-clause-only c =
    λ byte pair. let found = c.byte_of.ensures.only byte pair in absurd (omega arith)

pub returns-in_default-clause-only : goal.returns-in_default-clause-only
returns-in_default-clause-only c = λ byte pair. ap (λ x. Some x) (c.byte_of.ensures.only byte pair).0
