use Rattle.cob_back_moves.proofs.KeepsLaw.{returns_keep}
use Rattle.cob_back_moves.proofs.laws.returns_keep.Goals as goal

pub returns : goal.returns
returns c =
    returns_keep c.one_outcome_of_counts.ensures.needed c.places_end_in_length.ensures c.records_are_sound.ensures c.occurrences_apart.ensures c.items_fill.ensures
    c.items_are_sound.ensures c.items_return.ensures c.one_received.ensures
