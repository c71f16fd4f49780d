use Rattle.cob_copybook_entries.proofs.Names.{all_names}
use Rattle.cob_copybook_entries.proofs.occurs.names_in.Goals as goal

pub returns : goal.returns
returns c = all_names _ _ _ c.loop-rest.invariant.all c.in_default.len_below
