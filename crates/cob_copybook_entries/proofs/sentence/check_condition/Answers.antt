use Rattle.cob_copybook_entries.proofs.sentence.check_condition.Goals as goal

pub returns-in_default-clause-only : goal.returns-in_default-clause-only
returns-in_default-clause-only c = λ h. absurd (c.in_default.ensures.only h.0 h.1)
