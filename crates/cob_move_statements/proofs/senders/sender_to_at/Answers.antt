use Rattle.std.proofs.Common.{◌∷◌}
use Rattle.cob_move_statements.proofs.StatementLemmas.{to_fits}
use Rattle.cob_move_statements.proofs.senders.sender_to_at.Goals as goal

pub returns-in_err-sender-clause-only : goal.returns-in_err-sender-clause-only
returns-in_err-sender-clause-only c = λ x ws more to is t e.
    let fit = to_fits to more t in
    absurd (c.in_err-sender.ensures.only x ws (to ∷ more) is fit.0 fit.1 e)

pub returns-in_err-more-clause-only : goal.returns-in_err-more-clause-only
returns-in_err-more-clause-only c = λ x ws more to is t e.
    let fit = to_fits to more t in
    let read = c.in_ok-sender.ensures.only x ws (to ∷ more) is fit.0 fit.1 e in
    absurd (c.in_err-more.ensures.only to more t read.1)

pub returns-clause-only : goal.returns-clause-only
returns-clause-only c = λ x ws more to is t e.
    let fit = to_fits to more t in
    let read = c.in_ok-sender.ensures.only x ws (to ∷ more) is fit.0 fit.1 e in
    (read.0, c.in_ok-more.ensures.only to more t read.1)
