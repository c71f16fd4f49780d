use Rattle.std.proofs.Common.{inr, refl}
use Rattle.std.proofs.lemmas.Result.{err_from_is_err_and}
use Rattle.cob_move_statements.specs.Written.{written_reference, written_sender}
use Rattle.cob_move_tests.specs.Compared.{sender_in, stated_in}
use Rattle.cob_move_tests.specs.Entries.{nameable, records_of, valued_in}
use Rattle.cob_move_tests.proofs.AskedLemmas.{both_more, none_more}
use Rattle.cob_move_tests.proofs.StepLemmas.{memory_left, quality_stands, relates_broken, relates_read, relates_to_read, stands_read}
use Rattle.cob_move_tests.proofs.conditions.test_of.Goals as goal

-- ---- a relation

pub returns-in_err-subject-in-Relates-clause-fault : goal.returns-in_err-subject-in-Relates-clause-fault
returns-in_err-subject-in-Relates-clause-fault c =
    let p = err_from_is_err_and c.from_residual.result c.from_residual.ensures.1 in
    rw (p.1, p.2) (rw c.in-Relates.is (memory_left c.in_err-subject-in-Relates.ensures.fault))

pub returns-in_ok-subject-in-Relates-clause-found : goal.returns-in_ok-subject-in-Relates-clause-found
returns-in_ok-subject-in-Relates-clause-found c =
    rw c.in-Relates.is (relates_read (nameable c.args.entries.now) (valued_in c.args.entries.now) (records_of c.args.entries.now) c.relation_of.new.asked.items (sender_in (records_of c.args.entries.now) c.compared_of.new.asked.items c.in_ok-subject-in-Relates.subject) (written_sender c.in-Relates.first) (written_sender c.in-Relates.second) c.in-Relates.relation (stated_in (records_of c.args.entries.now) c.args.asked.now.items c.args.last) c.relation_of.result
    c.in_ok-subject-in-Relates.ensures.found c.relation_of.ensures.found)

pub returns-in_ok-subject-in-Relates-clause-fault : goal.returns-in_ok-subject-in-Relates-clause-fault
returns-in_ok-subject-in-Relates-clause-fault c =
    rw c.in-Relates.is (relates_broken (nameable c.args.entries.now) (valued_in c.args.entries.now) (records_of c.args.entries.now) (sender_in (records_of c.args.entries.now) c.compared_of.new.asked.items c.in_ok-subject-in-Relates.subject) (written_sender c.in-Relates.first) (written_sender c.in-Relates.second) c.in-Relates.relation (stated_in (records_of c.args.entries.now) c.args.asked.now.items c.args.last) c.relation_of.result
    c.in_ok-subject-in-Relates.ensures.found c.relation_of.ensures.fault)

pub returns-in_ok-subject-in-Relates-clause-grown : goal.returns-in_ok-subject-in-Relates-clause-grown
returns-in_ok-subject-in-Relates-clause-grown c =
    both_more (records_of c.args.entries.now) c.args.asked.now.items c.compared_of.new.asked.items c.relation_of.new.asked.items c.compared_of.ensures.grown c.relation_of.ensures.grown

-- ---- a relation whose subject is left out

pub relation_of-requires-in-Some-clause-there : goal.relation_of-requires-in-Some-clause-there
relation_of-requires-in-Some-clause-there c = rw c.in-Some.is at c.requires.there

pub returns-in-Some-clause-found : goal.returns-in-Some-clause-found
returns-in-Some-clause-found c =
    rw (c.in-RelatesTo.is, c.in-Some.is) (relates_to_read (nameable c.args.entries.now) (valued_in c.args.entries.now) (records_of c.args.entries.now) c.relation_of-in-Some.new.asked.items (sender_in (records_of c.args.entries.now) c.args.asked.now.items c.in-Some.stated.subject) c.in-Some.stated.relation c.in-RelatesTo.relation (written_sender c.in-RelatesTo.second) c.relation_of-in-Some.result
    c.relation_of-in-Some.ensures.found)

pub returns-in-Some-clause-fault : goal.returns-in-Some-clause-fault
returns-in-Some-clause-fault c = rw (c.in-RelatesTo.is, c.in-Some.is) c.relation_of-in-Some.ensures.fault

pub returns-in-None-clause-grown : goal.returns-in-None-clause-grown
returns-in-None-clause-grown c = none_more (records_of c.args.entries.now) c.args.asked.now.items

pub returns-in-None-clause-fault : goal.returns-in-None-clause-fault
returns-in-None-clause-fault c = rw (c.in-RelatesTo.is, c.in-None.is) (inr refl)

-- ---- an operand alone

pub returns-in-StandsAlone-clause-found : goal.returns-in-StandsAlone-clause-found
returns-in-StandsAlone-clause-found c =
    rw c.in-StandsAlone.is (stands_read (nameable c.args.entries.now) (valued_in c.args.entries.now) (records_of c.args.entries.now) c.alone_of.new.asked.items (written_sender c.in-StandsAlone.second) (stated_in (records_of c.args.entries.now) c.args.asked.now.items c.args.last) c.alone_of.result
    c.alone_of.ensures.found)

pub returns-in-StandsAlone-clause-fault : goal.returns-in-StandsAlone-clause-fault
returns-in-StandsAlone-clause-fault c = rw c.in-StandsAlone.is c.alone_of.ensures.fault

-- ---- a class or a sign

pub returns-in_err-condition-in-Has-clause-fault : goal.returns-in_err-condition-in-Has-clause-fault
returns-in_err-condition-in-Has-clause-fault c =
    let p = err_from_is_err_and c.from_residual-in_err-condition-in-Has.result c.from_residual-in_err-condition-in-Has.ensures.1 in
    rw (p.1, p.2) (rw c.in-Has.is c.in_err-condition-in-Has.ensures.fault)

pub returns-in_ok-condition-in-Has-clause-found : goal.returns-in_ok-condition-in-Has-clause-found
returns-in_ok-condition-in-Has-clause-found c =
    rw c.in-Has.is (quality_stands (nameable c.args.entries.now) (valued_in c.args.entries.now) (records_of c.args.entries.now) c.quality_of.new.asked.items (written_reference c.in-Has.entry) c.in-Has.opposite c.in-Has.quality (stated_in (records_of c.args.entries.now) c.args.asked.now.items c.args.last) c.in_ok-condition-in-Has.condition c.in_ok-condition-in-Has.ensures.found c.in_ok-condition-in-Has.ensures.testable)
