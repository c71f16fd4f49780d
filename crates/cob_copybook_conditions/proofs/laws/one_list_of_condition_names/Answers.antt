use Rattle.cob_copybook_conditions.proofs.Ones.{one_list_of_names}
use Rattle.cob_copybook_conditions.proofs.laws.one_list_of_condition_names.Goals as goal

pub returns : goal.returns
returns c = one_list_of_names c.words_are_one.ensures c.one_list_of_entries.ensures
