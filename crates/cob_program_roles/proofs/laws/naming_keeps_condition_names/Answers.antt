use Rattle.cob_program_roles.proofs.NamedLemmas.{keeps_condition_names}
use Rattle.cob_program_roles.proofs.laws.naming_keeps_condition_names.Goals as goal

pub returns : goal.returns
returns c = keeps_condition_names c.one_list_of_condition_names.ensures
