use Rattle.std.proofs.Common.{inr, map}
use Rattle.std.proofs.lemmas.Result.{err_from_is_err_and}
use Rattle.cob_move_names.specs.Senders.{kind_of_sender}
use Rattle.cob_move.specs.Refusals.{BreaksReceipt}
use Rattle.cob_move_data.specs.declared.operands.Operand.{Operand}
use Rattle.cob_move_data.specs.Moves.{operand_in, sender}
use Rattle.cob_move_tests.specs.Entries.{records_of}
use Rattle.cob_move.proofs.OwnLemmas.{pushed}
use Rattle.cob_move_receive.specs.Refusals.{IsAllowed}
use Rattle.cob_move_names.specs.Directory.{entries_named}
use Rattle.cob_move_statements.specs.Written.{written_reference}
use Rattle.cob_move.proofs.SingleLemmas.{allowed_more, found_all, found_more}
use Rattle.cob_move.proofs.SomeLemmas.{some_here, some_later}
use Rattle.cob_move.proofs.single.receivers_of.Goals as goal

pub returns-in_err-receiver-clause-fault : goal.returns-in_err-receiver-clause-fault
returns-in_err-receiver-clause-fault c =
    let p = err_from_is_err_and c.from_residual-in_err-receiver.result c.from_residual-in_err-receiver.ensures.1 in
    rw (p.1, p.2)
    (inr (c.loop-reference.invariant.broken c.in_err-receiver.field-0.0
    (some_here written_reference (BreaksReceipt c.in_err-receiver.field-0.0 (entries_named c.args.entries.now.names.now) (sender (records_of c.args.entries.now) c.args.from.now)) c.args.references.now c.loop-reference.reference-index
    c.reference-item.result c.loop-reference-test.true c.reference-item.is c.in_err-receiver.ensures.fault)))

pub loop-reference-preserved : goal.loop-reference-preserved
loop-reference-preserved c = record {
  found = found_more (entries_named c.args.entries.now.names.now) c.args.references.now c.loop-reference.reference-index c.reference-item.result
      (map (operand_in c.args.entries.now.output.now) c.loop-reference.receivers.items) (map (operand_in c.args.entries.now.output.now) c.push.new.self.items)
      (operand_in c.args.entries.now.output.now c.in_ok-receiver.receiver) c.loop-reference-test.true c.reference-item.is c.in_ok-receiver.ensures.found
      (pushed c.args.entries.now.output.now c.loop-reference.receivers.items c.push.new.self.items c.in_ok-receiver.receiver c.in_ok-push.ensures.items) c.loop-reference.invariant.found;
  allowed = allowed_more (λ (o : Operand). IsAllowed (kind_of_sender (sender (records_of c.args.entries.now) c.args.from.now)) o.kind)
      (map (operand_in c.args.entries.now.output.now) c.loop-reference.receivers.items) (map (operand_in c.args.entries.now.output.now) c.push.new.self.items)
      (operand_in c.args.entries.now.output.now c.in_ok-receiver.receiver) c.in_ok-receiver.ensures.allowed
      (pushed c.args.entries.now.output.now c.loop-reference.receivers.items c.push.new.self.items c.in_ok-receiver.receiver c.in_ok-push.ensures.items) c.loop-reference.invariant.allowed;
  broken = λ r h. c.loop-reference.invariant.broken r
      (some_later written_reference (BreaksReceipt r (entries_named c.args.entries.now.names.now) (sender (records_of c.args.entries.now) c.args.from.now)) c.args.references.now c.loop-reference.reference-index c.reference-item.result
      c.loop-reference-test.true c.reference-item.is h);
}

pub returns-clause-found : goal.returns-clause-found
returns-clause-found c =
    found_all (entries_named c.args.entries.now.names.now) c.args.references.now c.loop-reference.reference-index
    (map (operand_in c.args.entries.now.output.now) c.loop-reference.receivers.items) c.loop-reference-test.false c.loop-reference.invariant.found
