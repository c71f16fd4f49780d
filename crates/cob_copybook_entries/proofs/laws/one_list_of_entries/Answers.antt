use Rattle.cob_copybook_clauses.specs.Entries.{sentences}
use Rattle.cob_copybook_entries.proofs.OneList.{one_list}
use Rattle.cob_copybook_entries.proofs.laws.one_list_of_entries.Goals as goal

pub returns : goal.returns
returns c = λ ws a b h k. one_list c.one_entry.ensures (sentences ws).ended a b h.entries k.entries
