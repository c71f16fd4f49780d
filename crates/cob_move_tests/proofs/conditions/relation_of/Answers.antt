use Rattle.std.proofs.Common.{false, true, inr, sym, ◌∙◌}
use Rattle.std.proofs.lemmas.Result.{err_from_is_err_and}
use Rattle.cob_move_receive.specs.Table.{sender_kind}
use Rattle.cob_move_statements.specs.Written.{written_sender}
use Rattle.cob_move_tests.specs.Compared.{kind_of_compared}
use Rattle.cob_move_tests.specs.Entries.{nameable, records_of}
use Rattle.cob_move_tests.proofs.ReadLemmas.{relation_read}
use Rattle.cob_move_tests.proofs.StepLemmas.{kinds_compare, memory_left, not_comparable}
use Rattle.cob_move_tests.proofs.conditions.relation_of.Goals as goal

pub returns-in_err-object-clause-fault : goal.returns-in_err-object-clause-fault
returns-in_err-object-clause-fault c =
    let p = err_from_is_err_and c.from_residual.result c.from_residual.ensures.1 in
    rw (p.1, p.2) (memory_left c.in_err-object.ensures.fault)

pub returns-then-not-may_compare-clause-fault : goal.returns-then-not-may_compare-clause-fault
returns-then-not-may_compare-clause-fault c =
    inr (not_comparable (nameable c.args.entries.now) (records_of c.args.entries.now) c.args.asked.now.items c.compared_of.new.asked.items c.args.subject c.in_ok-object.object (written_sender c.args.written.now) c.compared_of.ensures.grown c.requires.there c.in_ok-object.ensures.found c.in_ok-object.ensures.there
    (kinds_compare (sender_kind c.kind.result) (sender_kind c.kind-2.result) (kind_of_compared c.args.subject) (kind_of_compared c.in_ok-object.object) false (sym c.if-not-may_compare.true ∙ c.may_compare.ensures) c.kind.ensures c.kind-2.ensures))

pub returns-clause-found : goal.returns-clause-found
returns-clause-found c =
    relation_read (nameable c.args.entries.now) (records_of c.args.entries.now) c.args.asked.now.items c.compared_of.new.asked.items c.args.subject c.in_ok-object.object c.comparand.result c.comparand-2.result c.args.relation (written_sender c.args.written.now) c.in_ok-condition.condition
    c.comparand.ensures c.comparand-2.ensures c.requires.there c.compared_of.ensures.grown c.in_ok-object.ensures.found c.in_ok-object.ensures.there (kinds_compare (sender_kind c.kind.result) (sender_kind c.kind-2.result) (kind_of_compared c.args.subject) (kind_of_compared c.in_ok-object.object) true (sym c.if-not-may_compare.false ∙ c.may_compare.ensures) c.kind.ensures c.kind-2.ensures)
    c.in_ok-condition.ensures.means c.in_ok-condition.ensures.testable

pub returns-clause-there : goal.returns-clause-there
returns-clause-there c =
    (relation_read (nameable c.args.entries.now) (records_of c.args.entries.now) c.args.asked.now.items c.compared_of.new.asked.items c.args.subject c.in_ok-object.object c.comparand.result c.comparand-2.result c.args.relation (written_sender c.args.written.now) c.in_ok-condition.condition
    c.comparand.ensures c.comparand-2.ensures c.requires.there c.compared_of.ensures.grown c.in_ok-object.ensures.found c.in_ok-object.ensures.there (kinds_compare (sender_kind c.kind.result) (sender_kind c.kind-2.result) (kind_of_compared c.args.subject) (kind_of_compared c.in_ok-object.object) true (sym c.if-not-may_compare.false ∙ c.may_compare.ensures) c.kind.ensures c.kind-2.ensures)
    c.in_ok-condition.ensures.means c.in_ok-condition.ensures.testable).there
