use Rattle.cob_source_copies.proofs.ExpansionLemmas.{nothing_to_expand}
use Rattle.cob_source_copies.proofs.laws.nothing_to_expand.Goals as goal

pub returns : goal.returns
returns c = λ texts ws none. nothing_to_expand texts ws none
