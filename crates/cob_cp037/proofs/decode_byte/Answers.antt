use Rattle.std.proofs.Common.{ap, Some, arith}
use Rattle.cob_cp037.proofs.decode_byte.Goals as goal

pub returns-in-0-clause-only : goal.returns-in-0-clause-only
returns-in-0-clause-only c =
    λ character pair. let found = c.character_of.ensures.only character pair in absurd (omega arith)

pub returns-in_default-clause-only : goal.returns-in_default-clause-only
returns-in_default-clause-only c = λ character pair. ap (λ x. Some x) (c.character_of.ensures.only character pair).0
