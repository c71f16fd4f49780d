-- A byte that has a character has no other, and is shown by it where it is no mark.
use Rattle.std.proofs.Common.{rules, inl, inr}
use Rattle.cob_report_show.proofs.PieceLemmas.{escaped_if}
use Rattle.cob_report_show.proofs.values.shown_byte.Goals as goal

pub returns-in-Some-clause-plain : goal.returns-in-Some-clause-plain
returns-in-Some-clause-plain c = λ character coded plain. let found = c.plain_character.ensures.only character coded plain in search rules

pub returns-in-Some-clause-none : goal.returns-in-Some-clause-none
returns-in-Some-clause-none c = λ none. absurd (none c.in-Some.character c.in-Some.ensures.found)

pub returns-in-None-clause-plain : goal.returns-in-None-clause-plain
returns-in-None-clause-plain c = λ character coded plain. let found = c.plain_character.ensures.only character coded plain in absurd (cc)

pub returns-in-Some-clause-shown : goal.returns-in-Some-clause-shown
returns-in-Some-clause-shown c = inl (c.in-Some.character, c.in-Some.ensures.found, c.in-Some.ensures.plain, search rules)

pub returns-in-None-clause-shown : goal.returns-in-None-clause-shown
returns-in-None-clause-shown c = inr (
  λ character coded. escaped_if _ (λ plain. let found = c.plain_character.ensures.only character coded plain in absurd (cc)),
  search rules,
)
