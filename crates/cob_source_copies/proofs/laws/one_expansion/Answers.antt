use Rattle.cob_source_copies.proofs.ExpansionLemmas.{one_expansion}
use Rattle.cob_source_copies.proofs.laws.one_expansion.Goals as goal

pub returns : goal.returns
returns c = λ texts ws a b x y. one_expansion texts ws a b x y
