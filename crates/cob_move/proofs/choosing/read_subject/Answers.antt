use Rattle.std.proofs.Common.{◌∙◌}
use Rattle.cob_move_loops.specs.Reading.{counters, written_choice}
use Rattle.cob_move.proofs.ChoosingLemmas.{subject_unread}
use Rattle.cob_move.proofs.choosing.read_subject.Goals as goal

pub returns-in-Err-clause-fault : goal.returns-in-Err-clause-fault
returns-in-Err-clause-fault c =
    subject_unread c.not_read.result c.fault_of.result c.in-Err.rule c.args.entries.now (counters c.args.turn.now) (written_choice c.args.choice.now) c.fault_of.ensures.0 (c.fault_of.ensures.1 ∙ c.line_of.ensures) c.not_read.ensures.memory
    c.not_read.ensures.broken c.in-Err.ensures.fault
