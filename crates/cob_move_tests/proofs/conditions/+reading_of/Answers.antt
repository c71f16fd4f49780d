use Rattle.std.proofs.lemmas.Result.{err_from_is_err_and}
use Rattle.cob_move_conditions.specs.Written.{written_condition, written_test}
use Rattle.cob_move_tests.specs.Compared.{stated_in}
use Rattle.cob_move_tests.specs.Entries.{nameable, records_of, valued_in}
use Rattle.cob_move_tests.proofs.AskedLemmas.{both_more}
use Rattle.cob_move_tests.proofs.StepLemmas.{and_read, brackets_read, memory_left, not_read, or_read, second_broken, second_broken_or, simple_read}
use Rattle.cob_move_tests.proofs.conditions.+reading_of.Goals as goal

-- ---- simple conditions, brackets and NOT

pub returns-in-Simple-clause-found : goal.returns-in-Simple-clause-found
returns-in-Simple-clause-found t c =
    rw c.in-Simple.is (simple_read (nameable c.args.entries.now) (valued_in c.args.entries.now) (records_of c.args.entries.now) c.test_of.new.asked.items (written_test c.in-Simple.test) (stated_in (records_of c.args.entries.now) c.args.asked.now.items c.args.last) c.test_of.result c.test_of.ensures.found)

pub returns-in-Simple-clause-fault : goal.returns-in-Simple-clause-fault
returns-in-Simple-clause-fault t c =
    rw c.in-Simple.is c.test_of.ensures.fault

pub returns-in_err-inside-in-InBrackets-clause-fault : goal.returns-in_err-inside-in-InBrackets-clause-fault
returns-in_err-inside-in-InBrackets-clause-fault t c =
    let p = err_from_is_err_and c.from_residual.result c.from_residual.ensures.1 in
    rw (p.1, p.2) (rw c.in-InBrackets.is (rw c.deref.ensures at c.in_err-inside-in-InBrackets.ensures.fault))

pub returns-in_ok-inside-in-InBrackets-clause-found : goal.returns-in_ok-inside-in-InBrackets-clause-found
returns-in_ok-inside-in-InBrackets-clause-found t c =
    rw c.in-InBrackets.is (brackets_read (nameable c.args.entries.now) (valued_in c.args.entries.now) (records_of c.args.entries.now) c.reading_of.new.asked.items (written_condition c.in-InBrackets.inner.value) (stated_in (records_of c.args.entries.now) c.args.asked.now.items c.args.last) c.in_ok-inside-in-InBrackets.inside (rw c.deref.ensures at c.in_ok-inside-in-InBrackets.ensures.found))

pub returns-in_err-inside-in-BehindNot-clause-fault : goal.returns-in_err-inside-in-BehindNot-clause-fault
returns-in_err-inside-in-BehindNot-clause-fault t c =
    let p = err_from_is_err_and c.from_residual-in_err-inside-in-BehindNot.result c.from_residual-in_err-inside-in-BehindNot.ensures.1 in
    rw (p.1, p.2) (rw c.in-BehindNot.is (rw c.deref-in-BehindNot.ensures at c.in_err-inside-in-BehindNot.ensures.fault))

pub returns-in_ok-condition-in-BehindNot-clause-found : goal.returns-in_ok-condition-in-BehindNot-clause-found
returns-in_ok-condition-in-BehindNot-clause-found t c =
    rw c.in-BehindNot.is (not_read (nameable c.args.entries.now) (valued_in c.args.entries.now) (records_of c.args.entries.now) c.reading_of-in-BehindNot.new.asked.items (written_condition c.in-BehindNot.inner.value) (stated_in (records_of c.args.entries.now) c.args.asked.now.items c.args.last) c.in_ok-inside-in-BehindNot.inside c.in_ok-condition-in-BehindNot.condition
    c.in_ok-condition-in-BehindNot.ensures.means c.in_ok-condition-in-BehindNot.ensures.testable (rw c.deref-in-BehindNot.ensures at c.in_ok-inside-in-BehindNot.ensures.found))

-- ---- AND

pub returns-in_err-one-in-WithAnd-clause-fault : goal.returns-in_err-one-in-WithAnd-clause-fault
returns-in_err-one-in-WithAnd-clause-fault t c =
    let p = err_from_is_err_and c.from_residual-in_err-one-in-WithAnd.result c.from_residual-in_err-one-in-WithAnd.ensures.1 in
    rw (p.1, p.2) (rw c.in-WithAnd.is (memory_left (rw c.deref-in-WithAnd.ensures at c.in_err-one-in-WithAnd.ensures.fault)))

pub returns-in_err-other-in-WithAnd-clause-fault : goal.returns-in_err-other-in-WithAnd-clause-fault
returns-in_err-other-in-WithAnd-clause-fault t c =
    let p = err_from_is_err_and c.from_residual-in_err-other-in-WithAnd.result c.from_residual-in_err-other-in-WithAnd.ensures.1 in
    rw (p.1, p.2) (rw c.in-WithAnd.is (second_broken c.in_err-other-in-WithAnd.field-0.0 (nameable c.args.entries.now) (valued_in c.args.entries.now) (records_of c.args.entries.now) c.reading_of-in-WithAnd.new.asked.items (written_condition c.in-WithAnd.first.value) (written_condition c.in-WithAnd.second.value) (stated_in (records_of c.args.entries.now) c.args.asked.now.items c.args.last) c.in_ok-one-in-WithAnd.one (rw c.deref-in-WithAnd.ensures at c.in_ok-one-in-WithAnd.ensures.found)
    (rw c.deref-in-WithAnd-2.ensures at c.in_err-other-in-WithAnd.ensures.fault)))

pub returns-in_err-other-in-WithAnd-clause-grown : goal.returns-in_err-other-in-WithAnd-clause-grown
returns-in_err-other-in-WithAnd-clause-grown t c =
    both_more (records_of c.args.entries.now) c.args.asked.now.items c.reading_of-in-WithAnd.new.asked.items c.reading_of-in-WithAnd-2.new.asked.items c.reading_of-in-WithAnd.ensures.grown c.reading_of-in-WithAnd-2.ensures.grown

pub returns-in_err-condition-in-WithAnd-clause-grown : goal.returns-in_err-condition-in-WithAnd-clause-grown
returns-in_err-condition-in-WithAnd-clause-grown t c =
    both_more (records_of c.args.entries.now) c.args.asked.now.items c.reading_of-in-WithAnd.new.asked.items c.reading_of-in-WithAnd-2.new.asked.items c.reading_of-in-WithAnd.ensures.grown c.reading_of-in-WithAnd-2.ensures.grown

pub returns-in_ok-condition-in-WithAnd-clause-found : goal.returns-in_ok-condition-in-WithAnd-clause-found
returns-in_ok-condition-in-WithAnd-clause-found t c =
    rw c.in-WithAnd.is (and_read (nameable c.args.entries.now) (valued_in c.args.entries.now) (records_of c.args.entries.now) c.reading_of-in-WithAnd.new.asked.items c.reading_of-in-WithAnd-2.new.asked.items (written_condition c.in-WithAnd.first.value) (written_condition c.in-WithAnd.second.value) (stated_in (records_of c.args.entries.now) c.args.asked.now.items c.args.last) c.in_ok-one-in-WithAnd.one c.in_ok-other-in-WithAnd.other c.in_ok-condition-in-WithAnd.condition c.reading_of-in-WithAnd-2.ensures.grown
    c.in_ok-condition-in-WithAnd.ensures.means c.in_ok-condition-in-WithAnd.ensures.testable (rw c.deref-in-WithAnd.ensures at c.in_ok-one-in-WithAnd.ensures.found) (rw c.deref-in-WithAnd-2.ensures at c.in_ok-other-in-WithAnd.ensures.found))

pub returns-in_ok-condition-in-WithAnd-clause-grown : goal.returns-in_ok-condition-in-WithAnd-clause-grown
returns-in_ok-condition-in-WithAnd-clause-grown t c =
    both_more (records_of c.args.entries.now) c.args.asked.now.items c.reading_of-in-WithAnd.new.asked.items c.reading_of-in-WithAnd-2.new.asked.items c.reading_of-in-WithAnd.ensures.grown c.reading_of-in-WithAnd-2.ensures.grown

-- ---- OR

pub returns-in_err-one-in-WithOr-clause-fault : goal.returns-in_err-one-in-WithOr-clause-fault
returns-in_err-one-in-WithOr-clause-fault t c =
    let p = err_from_is_err_and c.from_residual-in_err-one-in-WithOr.result c.from_residual-in_err-one-in-WithOr.ensures.1 in
    rw (p.1, p.2) (rw c.in-WithOr.is (memory_left (rw c.deref-in-WithOr.ensures at c.in_err-one-in-WithOr.ensures.fault)))

pub returns-in_err-other-in-WithOr-clause-fault : goal.returns-in_err-other-in-WithOr-clause-fault
returns-in_err-other-in-WithOr-clause-fault t c =
    let p = err_from_is_err_and c.from_residual-in_err-other-in-WithOr.result c.from_residual-in_err-other-in-WithOr.ensures.1 in
    rw (p.1, p.2) (rw c.in-WithOr.is (second_broken_or c.in_err-other-in-WithOr.field-0.0 (nameable c.args.entries.now) (valued_in c.args.entries.now) (records_of c.args.entries.now) c.reading_of-in-WithOr.new.asked.items (written_condition c.in-WithOr.first.value) (written_condition c.in-WithOr.second.value) (stated_in (records_of c.args.entries.now) c.args.asked.now.items c.args.last) c.in_ok-one-in-WithOr.one (rw c.deref-in-WithOr.ensures at c.in_ok-one-in-WithOr.ensures.found)
    (rw c.deref-in-WithOr-2.ensures at c.in_err-other-in-WithOr.ensures.fault)))

pub returns-in_err-other-in-WithOr-clause-grown : goal.returns-in_err-other-in-WithOr-clause-grown
returns-in_err-other-in-WithOr-clause-grown t c =
    both_more (records_of c.args.entries.now) c.args.asked.now.items c.reading_of-in-WithOr.new.asked.items c.reading_of-in-WithOr-2.new.asked.items c.reading_of-in-WithOr.ensures.grown c.reading_of-in-WithOr-2.ensures.grown

pub returns-in_err-condition-in-WithOr-clause-grown : goal.returns-in_err-condition-in-WithOr-clause-grown
returns-in_err-condition-in-WithOr-clause-grown t c =
    both_more (records_of c.args.entries.now) c.args.asked.now.items c.reading_of-in-WithOr.new.asked.items c.reading_of-in-WithOr-2.new.asked.items c.reading_of-in-WithOr.ensures.grown c.reading_of-in-WithOr-2.ensures.grown

pub returns-in_ok-condition-in-WithOr-clause-found : goal.returns-in_ok-condition-in-WithOr-clause-found
returns-in_ok-condition-in-WithOr-clause-found t c =
    rw c.in-WithOr.is (or_read (nameable c.args.entries.now) (valued_in c.args.entries.now) (records_of c.args.entries.now) c.reading_of-in-WithOr.new.asked.items c.reading_of-in-WithOr-2.new.asked.items (written_condition c.in-WithOr.first.value) (written_condition c.in-WithOr.second.value) (stated_in (records_of c.args.entries.now) c.args.asked.now.items c.args.last) c.in_ok-one-in-WithOr.one c.in_ok-other-in-WithOr.other c.in_ok-condition-in-WithOr.condition c.reading_of-in-WithOr-2.ensures.grown
    c.in_ok-condition-in-WithOr.ensures.means c.in_ok-condition-in-WithOr.ensures.testable (rw c.deref-in-WithOr.ensures at c.in_ok-one-in-WithOr.ensures.found) (rw c.deref-in-WithOr-2.ensures at c.in_ok-other-in-WithOr.ensures.found))

pub returns-in_ok-condition-in-WithOr-clause-grown : goal.returns-in_ok-condition-in-WithOr-clause-grown
returns-in_ok-condition-in-WithOr-clause-grown t c =
    both_more (records_of c.args.entries.now) c.args.asked.now.items c.reading_of-in-WithOr.new.asked.items c.reading_of-in-WithOr-2.new.asked.items c.reading_of-in-WithOr.ensures.grown c.reading_of-in-WithOr-2.ensures.grown
