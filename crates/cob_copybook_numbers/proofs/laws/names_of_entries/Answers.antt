use Rattle.cob_copybook_numbers.proofs.Walks.{names_belong}
use Rattle.cob_copybook_numbers.proofs.laws.names_of_entries.Goals as goal

pub returns : goal.returns
returns c = names_belong c.words_are_one.ensures c.one_list_of_entries.ensures
