use Rattle.cob_program_faults.proofs.EndLemmas.{ends_among}
use Rattle.cob_program_texts.specs.CheckEnds.{MayEndCheck}
use Rattle.cob_program_texts.proofs.checking.do_check.Goals as goal

pub returns : goal.returns
returns g c = ends_among MayEndCheck _ _ c.check.ensures c.tell_checked.ensures
