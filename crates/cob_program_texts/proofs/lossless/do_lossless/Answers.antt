use Rattle.cob_program_faults.proofs.EndLemmas.{ends_among}
use Rattle.cob_program_texts.specs.LosslessEnds.{MayEndLossless}
use Rattle.cob_program_texts.proofs.lossless.do_lossless.Goals as goal

pub returns : goal.returns
returns g c = ends_among MayEndLossless _ _ c.lose_nothing.ensures c.tell_answer.ensures
