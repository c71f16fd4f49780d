use Rattle.cob_program_faults.proofs.EndLemmas.{ends_among}
use Rattle.cob_program_list.specs.Ends.{MayEndLayout}
use Rattle.cob_program_list.proofs.entries.do_layout.Goals as goal

-- src/entries.rt:69:1
pub returns : goal.returns
returns g c = ends_among MayEndLayout _ _ c.list_entries.ensures c.tell_listed.ensures
