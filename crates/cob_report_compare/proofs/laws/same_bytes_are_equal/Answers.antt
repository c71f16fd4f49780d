use Rattle.cob_report_compare.proofs.SharedLemmas.{same_bytes}
use Rattle.cob_report_compare.proofs.laws.same_bytes_are_equal.Goals as goal

pub returns : goal.returns
returns c = same_bytes c.records_are_sound.ensures c.places_end_in_length.ensures c.one_outcome_of_counts.ensures.all
