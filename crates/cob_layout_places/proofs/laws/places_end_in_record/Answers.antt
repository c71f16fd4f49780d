use Rattle.cob_layout_places.proofs.BoundLemmas as law
use Rattle.cob_layout_places.proofs.laws.places_end_in_record.Goals as goal

pub returns-clause-entries : goal.returns-clause-entries
returns-clause-entries c = law.end_in_record

pub returns-clause-entry : goal.returns-clause-entry
returns-clause-entry c = law.entry_ends
