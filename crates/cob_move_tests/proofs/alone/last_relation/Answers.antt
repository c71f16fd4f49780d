use Rattle.std.proofs.Common.{inr}
use Rattle.cob_move_statements.specs.Written.{written_sender}
use Rattle.cob_move_tests.specs.Compared.{sender_in}
use Rattle.cob_move_tests.specs.Entries.{nameable, records_of}
use Rattle.cob_move_tests.proofs.AskedLemmas.{none_more}
use Rattle.cob_move_tests.proofs.StepLemmas.{alone_read}
use Rattle.cob_move_tests.proofs.alone.last_relation.Goals as goal

pub relation_of-requires-clause-there : goal.relation_of-requires-clause-there
relation_of-requires-clause-there c = rw c.in-Some.is at c.requires.there

pub returns-in-Some-clause-found : goal.returns-in-Some-clause-found
returns-in-Some-clause-found c =
    rw c.in-Some.is (alone_read (nameable c.args.entries.now) (records_of c.args.entries.now) c.relation_of.new.asked.items (sender_in (records_of c.args.entries.now) c.args.asked.now.items c.in-Some.stated.subject) c.in-Some.stated.relation (written_sender c.args.written.now) c.relation_of.result
    c.relation_of.ensures.found)

pub returns-in-Some-clause-fault : goal.returns-in-Some-clause-fault
returns-in-Some-clause-fault c = rw c.in-Some.is c.relation_of.ensures.fault

pub returns-in-None-clause-grown : goal.returns-in-None-clause-grown
returns-in-None-clause-grown c = none_more (records_of c.args.entries.now) c.args.asked.now.items

pub returns-in-None-clause-fault : goal.returns-in-None-clause-fault
returns-in-None-clause-fault c = rw c.in-None.is (inr c.alone.ensures)
