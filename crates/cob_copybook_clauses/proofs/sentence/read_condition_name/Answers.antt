use Rattle.std.proofs.Common.{codes, ◌∷◌}
use Rattle.cob_copybook_clauses.proofs.sentence.read_condition_name.Goals as goal

pub returns-in_err-level-clause-only : goal.returns-in_err-level-clause-only
returns-in_err-level-clause-only c = λ n is. absurd (c.in_err-level.ensures.only (codes "88") is.level (is.named ∷ (is.value ∷ is.more)) is.level_is is.words)

pub returns-in_err-name-clause-only : goal.returns-in_err-name-clause-only
returns-in_err-name-clause-only c = λ n is.
    let level = c.in_ok-level.ensures.only (codes "88") is.level (is.named ∷ (is.value ∷ is.more)) is.level_is is.words in
    absurd (c.in_err-name.ensures.only n is.named (is.value ∷ is.more) is.name_is level.1)
