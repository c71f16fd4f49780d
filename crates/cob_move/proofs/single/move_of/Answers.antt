use Rattle.std.proofs.lemmas.Result.{err_from_is_err_and}
use Rattle.cob_move_data.specs.Moves.{sender}
use Rattle.cob_move_tests.specs.Entries.{records_of}
use Rattle.cob_move_names.specs.Directory.{entries_named}
use Rattle.cob_move_statements.specs.Written.{written_references, written_sender}
use Rattle.cob_move.proofs.SingleLemmas.{receivers_fault, sender_fault}
use Rattle.cob_move.proofs.single.move_of.Goals as goal

pub returns-in_err-receivers-clause-fault : goal.returns-in_err-receivers-clause-fault
returns-in_err-receivers-clause-fault c =
    let p = err_from_is_err_and c.from_residual-in_err-receivers.result c.from_residual-in_err-receivers.ensures.1 in
    rw (p.1, p.2)
    (λ input output. receivers_fault c.in_err-receivers.field-0.0 (entries_named c.args.entries.now.names.now) (written_sender c.args.written.now) (sender (records_of c.args.entries.now) c.in_ok-sender.sender)
    (written_references c.args.references.now) input output c.in_ok-sender.ensures.found c.in_err-receivers.ensures.fault)

pub returns-in_err-sender-clause-fault : goal.returns-in_err-sender-clause-fault
returns-in_err-sender-clause-fault c =
    let p = err_from_is_err_and c.from_residual.result c.from_residual.ensures.1 in
    rw (p.1, p.2)
    (λ input output. sender_fault c.in_err-sender.field-0.0 (entries_named c.args.entries.now.names.now) (written_sender c.args.written.now)
    (written_references c.args.references.now) input output c.in_err-sender.ensures.fault)
