use Rattle.std.proofs.Common.{inr}
use Rattle.std.proofs.lemmas.Result.{err_from_is_err_and}
use Rattle.cob_move_statements.specs.Written.{written_sender}
use Rattle.cob_move_tests.specs.Compared.{stated_in}
use Rattle.cob_move_tests.specs.Entries.{nameable, records_of, valued_in, valued_item}
use Rattle.cob_move_tests.proofs.AskedLemmas.{none_more}
use Rattle.cob_move_tests.proofs.StepLemmas.{last_broken, last_read, name_broken, name_not_comparable, name_read}
use Rattle.cob_move_tests.proofs.alone.alone_of.Goals as goal

pub returns-in_err-named-clause-grown : goal.returns-in_err-named-clause-grown
returns-in_err-named-clause-grown c = none_more (records_of c.args.entries.now) c.args.asked.now.items

pub returns-in_err-named-clause-fault : goal.returns-in_err-named-clause-fault
returns-in_err-named-clause-fault c =
    let p = err_from_is_err_and c.from_residual.result c.from_residual.ensures.1 in
    rw (p.1, p.2) (inr (name_broken c.in_err-named.field-0.0 (nameable c.args.entries.now) (valued_in c.args.entries.now) (written_sender c.args.written.now)
    (stated_in (records_of c.args.entries.now) c.args.asked.now.items c.args.last) c.in_err-named.ensures.fault))

pub returns-in-None-clause-found : goal.returns-in-None-clause-found
returns-in-None-clause-found c =
    last_read (nameable c.args.entries.now) (valued_in c.args.entries.now) (records_of c.args.entries.now) c.last_relation.new.asked.items (written_sender c.args.written.now)
    (stated_in (records_of c.args.entries.now) c.args.asked.now.items c.args.last) c.last_relation.result (rw c.in-None.is at c.in_ok-named.ensures.none) c.last_relation.ensures.found

pub returns-in-None-clause-fault : goal.returns-in-None-clause-fault
returns-in-None-clause-fault c =
    last_broken (nameable c.args.entries.now) (valued_in c.args.entries.now) (written_sender c.args.written.now)
    (stated_in (records_of c.args.entries.now) c.args.asked.now.items c.args.last) c.last_relation.result (rw c.in-None.is at c.in_ok-named.ensures.none) c.last_relation.ensures.fault

pub holds-requires : goal.holds-requires
holds-requires c = record { operand = rw c.in-Some.is at c.in_ok-named.ensures.operand }

pub returns-in_err-condition-in-Some-clause-fault : goal.returns-in_err-condition-in-Some-clause-fault
returns-in_err-condition-in-Some-clause-fault c =
    let r = records_of c.args.entries.now in
    let p = err_from_is_err_and c.from_residual-in_err-condition-in-Some.result c.from_residual-in_err-condition-in-Some.ensures.1 in
    rw (p.1, p.2) (name_not_comparable c.in_err-condition-in-Some.field-0.0 (nameable c.args.entries.now) (valued_in c.args.entries.now) (written_sender c.args.written.now) (valued_item r c.in-Some.item)
    (stated_in r c.args.asked.now.items c.args.last) (rw c.in-Some.is at c.in_ok-named.ensures.found) c.in_err-condition-in-Some.ensures.fault)

pub returns-in_ok-condition-in-Some-clause-found : goal.returns-in_ok-condition-in-Some-clause-found
returns-in_ok-condition-in-Some-clause-found c =
    let r = records_of c.args.entries.now in
    name_read (nameable c.args.entries.now) (valued_in c.args.entries.now) r c.holds.new.asked.items (written_sender c.args.written.now) (valued_item r c.in-Some.item)
    (stated_in r c.args.asked.now.items c.args.last) c.in_ok-condition-in-Some.condition (rw c.in-Some.is at c.in_ok-named.ensures.found)
    c.in_ok-condition-in-Some.ensures.may c.in_ok-condition-in-Some.ensures.means c.in_ok-condition-in-Some.ensures.testable
