use Rattle.std.proofs.Common.{ℕ, subst}
use Rattle.cob_report_partners.specs.Verdicts.{Objects, greatest_element}
use Rattle.cob_report_partners.proofs.judge.objection_to.Goals as goal

pub returns-in-Some-objection_of_kinds-clause-some : goal.returns-in-Some-objection_of_kinds-clause-some
returns-in-Some-objection_of_kinds-clause-some c =
    let counts = c.args.counts in
    let from = c.args.from.now in
    let to = c.args.to.now in
    let o = c.in-Some-objection_of_kinds.objection in
    subst (λ (sent : ℕ). Objects counts from sent to (greatest_element to.entry.now) o) c.greatest_element-sent.ensures
    (subst (λ (room : ℕ). Objects counts from c.greatest_element-sent.result to room o) c.greatest_element-room.ensures (c.in-Some-objection_of_kinds.ensures counts))
