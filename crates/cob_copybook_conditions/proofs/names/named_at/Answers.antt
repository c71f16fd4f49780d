use Rattle.cob_copybook_conditions.proofs.NameLemmas.{named_found}
use Rattle.cob_copybook_conditions.proofs.names.named_at.Goals as goal

pub returns-in_err-read_condition_name-clause-only : goal.returns-in_err-read_condition_name-clause-only
returns-in_err-read_condition_name-clause-only c = λ name more h. absurd (c.in_err-read_condition_name.ensures.only name h.is)

pub returns-in-len3-up-clause-found : goal.returns-in-len3-up-clause-found
returns-in-len3-up-clause-found c =
    named_found c.args.sentence.now c.in_ok-name.name c.in_ok-read_condition_name.field-0.now c.in_ok-read_condition_name.ensures.found c.in_ok-name.ensures.found.0 c.in_ok-name.ensures.found.1
