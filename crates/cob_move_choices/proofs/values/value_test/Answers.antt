use Rattle.std.proofs.Common.{◌≡◌, ◌∙◌, List, ap, inl, inr, length, refl, subst, sym, Some}
use Rattle.std.specs.List.{AllByRecursion, slice_get}
use Rattle.std.proofs.lemmas.Option.{slice_get_read}
use Rattle.std.proofs.lemmas.Result.{err_from_is_err_and}
use Rattle.cob_source.specs.Tokens.{lexemes}
use Rattle.cob_copybook_clauses.specs.Written.{written_value}
use Rattle.cob_copybook_entry.specs.Described.{plain_value}
use Rattle.cob_move_condition.specs.Conditions.{condition_of}
use Rattle.cob_move_tests.specs.Asked.{IsSubscriptedEntry, sender_named}
use Rattle.cob_move_tests.specs.Entries.{records_of}
use Rattle.cob_move_choices.specs.declared.values.Listed.{Listed}
use Rattle.cob_move_choices.specs.Values.{FromToWritten, IsSpanWritten, OneWritten, written_span}
use Rattle.cob_move_choices.proofs.ReadLemmas.{may_be_listed, may_named, named_at, no_values, one_found, two_found, value_refused, values_refused}
use Rattle.cob_move_choices.proofs.values.value_test.Goals as goal

pub returns-in_default-clause-fault : goal.returns-in_default-clause-fault
returns-in_default-clause-fault c = inr (no_values (records_of c.args.entries.now) (sender_named (records_of c.args.entries.now) c.args.asked.now c.args.number) (lexemes c.args.words.now) (λ w is. c.in_default.ensures.only w is))

pub value_of-requires : goal.value_of-requires
value_of-requires c =
    let r = records_of c.args.entries.now in
    let asked = c.args.asked.now in
    let number = c.args.number in
    let n = c.index-asked-number.result in
    let ws = lexemes c.args.words.now in
    let at : slice_get asked number ≡ Some n = slice_get_read asked (length asked) number n refl c.requires.there c.index-asked-number.is in
    named_at r asked number n at c.requires.operands

pub value_of-requires-in-FromTo : goal.value_of-requires-in-FromTo
value_of-requires-in-FromTo c =
    let r = records_of c.args.entries.now in
    let asked = c.args.asked.now in
    let number = c.args.number in
    let n = c.index-asked-number.result in
    let ws = lexemes c.args.words.now in
    let at : slice_get asked number ≡ Some n = slice_get_read asked (length asked) number n refl c.requires.there c.index-asked-number.is in
    named_at r asked number n at c.requires.operands

pub value_of-requires-in-FromTo-2 : goal.value_of-requires-in-FromTo-2
value_of-requires-in-FromTo-2 c =
    let r = records_of c.args.entries.now in
    let asked = c.args.asked.now in
    let number = c.args.number in
    let n = c.index-asked-number.result in
    let ws = lexemes c.args.words.now in
    let at : slice_get asked number ≡ Some n = slice_get_read asked (length asked) number n refl c.requires.there c.index-asked-number.is in
    named_at r asked number n at c.requires.operands

pub returns-in_err-value-in-One-clause-fault : goal.returns-in_err-value-in-One-clause-fault
returns-in_err-value-in-One-clause-fault c =
    let r = records_of c.args.entries.now in
    let asked = c.args.asked.now in
    let number = c.args.number in
    let n = c.index-asked-number.result in
    let ws = lexemes c.args.words.now in
    let at : slice_get asked number ≡ Some n = slice_get_read asked (length asked) number n refl c.requires.there c.index-asked-number.is in
    let spelled : IsSpanWritten (OneWritten (written_value c.in-One.written)) ws = subst (λ (l : Listed). IsSpanWritten (written_span l) ws) c.in-One.is c.in-Some.ensures.found in
    let p = err_from_is_err_and c.from_residual.result c.from_residual.ensures.1 in
    rw (p.1, p.2) (inr (values_refused c.in_err-value-in-One.field-0.0 r (sender_named r asked number) ws (OneWritten (written_value c.in-One.written)) spelled
    (value_refused c.in_err-value-in-One.field-0.0 r asked number n (written_value c.in-One.written) at c.in_err-value-in-One.ensures.fault)))

pub returns-in_err-first-in-FromTo-clause-fault : goal.returns-in_err-first-in-FromTo-clause-fault
returns-in_err-first-in-FromTo-clause-fault c =
    let r = records_of c.args.entries.now in
    let asked = c.args.asked.now in
    let number = c.args.number in
    let n = c.index-asked-number.result in
    let ws = lexemes c.args.words.now in
    let at : slice_get asked number ≡ Some n = slice_get_read asked (length asked) number n refl c.requires.there c.index-asked-number.is in
    let spelled : IsSpanWritten (FromToWritten (written_value c.in-FromTo.from) (written_value c.in-FromTo.to)) ws = subst (λ (l : Listed). IsSpanWritten (written_span l) ws) c.in-FromTo.is c.in-Some.ensures.found in
    let p = err_from_is_err_and c.from_residual-in_err-first-in-FromTo.result c.from_residual-in_err-first-in-FromTo.ensures.1 in
    rw (p.1, p.2) (inr (values_refused c.in_err-first-in-FromTo.field-0.0 r (sender_named r asked number) ws (FromToWritten (written_value c.in-FromTo.from) (written_value c.in-FromTo.to)) spelled
    (inl (value_refused c.in_err-first-in-FromTo.field-0.0 r asked number n (written_value c.in-FromTo.from) at c.in_err-first-in-FromTo.ensures.fault))))

pub returns-in_err-last-in-FromTo-clause-fault : goal.returns-in_err-last-in-FromTo-clause-fault
returns-in_err-last-in-FromTo-clause-fault c =
    let r = records_of c.args.entries.now in
    let asked = c.args.asked.now in
    let number = c.args.number in
    let n = c.index-asked-number.result in
    let ws = lexemes c.args.words.now in
    let at : slice_get asked number ≡ Some n = slice_get_read asked (length asked) number n refl c.requires.there c.index-asked-number.is in
    let spelled : IsSpanWritten (FromToWritten (written_value c.in-FromTo.from) (written_value c.in-FromTo.to)) ws = subst (λ (l : Listed). IsSpanWritten (written_span l) ws) c.in-FromTo.is c.in-Some.ensures.found in
    let p = err_from_is_err_and c.from_residual-in_err-last-in-FromTo.result c.from_residual-in_err-last-in-FromTo.ensures.1 in
    rw (p.1, p.2) (inr (values_refused c.in_err-last-in-FromTo.field-0.0 r (sender_named r asked number) ws (FromToWritten (written_value c.in-FromTo.from) (written_value c.in-FromTo.to)) spelled
    (inr (value_refused c.in_err-last-in-FromTo.field-0.0 r asked number n (written_value c.in-FromTo.to) at c.in_err-last-in-FromTo.ensures.fault))))

pub returns-in_ok-value-in-One-clause-found : goal.returns-in_ok-value-in-One-clause-found
returns-in_ok-value-in-One-clause-found c =
    let r = records_of c.args.entries.now in
    let asked = c.args.asked.now in
    let number = c.args.number in
    let n = c.index-asked-number.result in
    let ws = lexemes c.args.words.now in
    let at : slice_get asked number ≡ Some n = slice_get_read asked (length asked) number n refl c.requires.there c.index-asked-number.is in
    let spelled : IsSpanWritten (OneWritten (written_value c.in-One.written)) ws = subst (λ (l : Listed). IsSpanWritten (written_span l) ws) c.in-One.is c.in-Some.ensures.found in
    let x = plain_value c.in_ok-value-in-One.value in
    one_found r (sender_named r asked number) ws (written_value c.in-One.written) x (condition_of (sender_named r asked) c.compares.result) spelled c.in_ok-value-in-One.ensures.found (may_named r asked number n x at c.in_ok-value-in-One.ensures.may)
    (c.compares.ensures.means (sender_named r asked))

pub returns-in_ok-value-in-One-clause-tested : goal.returns-in_ok-value-in-One-clause-tested
returns-in_ok-value-in-One-clause-tested c =
    let r = records_of c.args.entries.now in
    let asked = c.args.asked.now in
    let number = c.args.number in
    let n = c.index-asked-number.result in
    let ws = lexemes c.args.words.now in
    let at : slice_get asked number ≡ Some n = slice_get_read asked (length asked) number n refl c.requires.there c.index-asked-number.is in
    c.compares.ensures.testable r asked (may_be_listed r asked number n (plain_value c.in_ok-value-in-One.value) c.requires.there at c.in_ok-value-in-One.ensures.may)

pub returns-in_ok-within-in-FromTo-clause-found : goal.returns-in_ok-within-in-FromTo-clause-found
returns-in_ok-within-in-FromTo-clause-found c =
    let r = records_of c.args.entries.now in
    let asked = c.args.asked.now in
    let number = c.args.number in
    let n = c.index-asked-number.result in
    let ws = lexemes c.args.words.now in
    let at : slice_get asked number ≡ Some n = slice_get_read asked (length asked) number n refl c.requires.there c.index-asked-number.is in
    let spelled : IsSpanWritten (FromToWritten (written_value c.in-FromTo.from) (written_value c.in-FromTo.to)) ws = subst (λ (l : Listed). IsSpanWritten (written_span l) ws) c.in-FromTo.is c.in-Some.ensures.found in
    let x = plain_value c.in_ok-first-in-FromTo.first in
    let y = plain_value c.in_ok-last-in-FromTo.last in
    two_found r (sender_named r asked number) ws (written_value c.in-FromTo.from) (written_value c.in-FromTo.to) x y (condition_of (sender_named r asked) c.in_ok-within-in-FromTo.within) spelled
    c.in_ok-first-in-FromTo.ensures.found (may_named r asked number n x at c.in_ok-first-in-FromTo.ensures.may) c.in_ok-last-in-FromTo.ensures.found (may_named r asked number n y at c.in_ok-last-in-FromTo.ensures.may)
    (c.in_ok-within-in-FromTo.ensures.means (sender_named r asked))

pub returns-in_ok-within-in-FromTo-clause-tested : goal.returns-in_ok-within-in-FromTo-clause-tested
returns-in_ok-within-in-FromTo-clause-tested c =
    let r = records_of c.args.entries.now in
    let asked = c.args.asked.now in
    let number = c.args.number in
    let n = c.index-asked-number.result in
    let ws = lexemes c.args.words.now in
    let at : slice_get asked number ≡ Some n = slice_get_read asked (length asked) number n refl c.requires.there c.index-asked-number.is in
    c.in_ok-within-in-FromTo.ensures.testable r asked (may_be_listed r asked number n (plain_value c.in_ok-first-in-FromTo.first) c.requires.there at c.in_ok-first-in-FromTo.ensures.may)
    (may_be_listed r asked number n (plain_value c.in_ok-last-in-FromTo.last) c.requires.there at c.in_ok-last-in-FromTo.ensures.may)
