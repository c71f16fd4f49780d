use Rattle.cob_program_faults.proofs.EndLemmas.{ends_among}
use Rattle.cob_program_list.specs.Ends.{MayEndListing}
use Rattle.cob_program_list.proofs.pieces.do_pieces.Goals as goal

pub returns : goal.returns
returns g c = ends_among MayEndListing _ _ c.list_pieces.ensures c.tell_listed.ensures
