use Rattle.cob_program_faults.proofs.EndLemmas.{ends_among}
use Rattle.cob_program_list.specs.Ends.{MayEndListing}
use Rattle.cob_program_list.proofs.records.do_show.Goals as goal

-- src/records.rt:105:1
pub returns : goal.returns
returns g c = ends_among MayEndListing _ _ c.list_records.ensures c.tell_shown.ensures
