use Rattle.cob_move_choices.proofs.OneLemmas.{one_subject_of}
use Rattle.cob_move_choices.proofs.laws.one_subject.Goals as goal

pub returns : goal.returns
returns c = one_subject_of c.one_named.ensures
