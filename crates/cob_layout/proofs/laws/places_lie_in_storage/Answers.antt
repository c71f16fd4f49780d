use Rattle.cob_layout.proofs.StorageLemmas.{lie_in_storage}
use Rattle.cob_layout.proofs.laws.places_lie_in_storage.Goals as goal

pub returns : goal.returns
returns c = lie_in_storage c.places_end_in_length.ensures c.all_give_needed.ensures c.one_outcome_of_counts.ensures.needed
