use Rattle.cob_program_roles.proofs.NamedLemmas.{keeps_entries, keeps_lengths, keeps_places}
use Rattle.cob_program_roles.proofs.laws.naming_keeps_the_rest.Goals as goal

pub returns-clause-entries : goal.returns-clause-entries
returns-clause-entries c = keeps_entries

pub returns-clause-lengths : goal.returns-clause-lengths
returns-clause-lengths c = keeps_lengths

pub returns-clause-places : goal.returns-clause-places
returns-clause-places c = keeps_places
