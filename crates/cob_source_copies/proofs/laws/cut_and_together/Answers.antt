use Rattle.cob_source_copies.proofs.TogetherLemmas.{cut_and_together}
use Rattle.cob_source_copies.proofs.laws.cut_and_together.Goals as goal

pub returns : goal.returns
returns c = λ ws all. cut_and_together ws all
