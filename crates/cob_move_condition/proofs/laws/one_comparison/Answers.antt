use Rattle.cob_move_condition.proofs.OneLemmas as lemmas
use Rattle.cob_move_condition.proofs.laws.one_comparison.Goals as goal

pub returns : goal.returns
returns c = lemmas.one_comparison (record { code = c.table_is_one_to_one.ensures; number = c.one_sent_number.ensures; value = c.one_value.ensures })
