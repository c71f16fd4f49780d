use Rattle.std.proofs.Common.{◌≡◌, refl, inl, inr, rules, true, false}
use Rattle.cob_copybook_entries.proofs.occurs.numbers_of.Goals as goal

pub returns-then-not-has_numbers-clause-fault : goal.returns-then-not-has_numbers-clause-fault
returns-then-not-has_numbers-clause-fault c =
    let none : c.has_numbers.result ≡ false = search rules in
    inl (refl, c.has_numbers.ensures.no none)

pub returns-in-None-clause-fault : goal.returns-in-None-clause-fault
returns-in-None-clause-fault c =
    let all : c.has_numbers.result ≡ true = search rules in
    inr (refl, (c.has_numbers.ensures.yes all, c.in-None.ensures.only))
