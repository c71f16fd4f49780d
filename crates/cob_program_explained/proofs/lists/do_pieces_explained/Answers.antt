use Rattle.cob_program_faults.proofs.EndLemmas.{ends_among}
use Rattle.cob_program_list.specs.Ends.{MayEndListing}
use Rattle.cob_program_explained.proofs.lists.do_pieces_explained.Goals as goal

pub returns : goal.returns
returns g c = ends_among MayEndListing _ _ c.list_pieces.ensures c.tell_pieces.ensures
