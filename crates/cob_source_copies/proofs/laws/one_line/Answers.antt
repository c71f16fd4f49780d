use Rattle.std.proofs.Common.{arith}
use Rattle.cob_source_copies.proofs.laws.one_line.Goals as goal

pub returns : goal.returns
returns c = λ number a b m n (x, some, most) (y, more, least). (omega (arith, x, some, most, y, more, least), omega (arith, x, some, most, y, more, least))
