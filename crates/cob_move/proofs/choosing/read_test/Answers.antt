use Rattle.std.proofs.Common.{◌∙◌}
use Rattle.cob_source.specs.Tokens.{lexemes}
use Rattle.cob_move_choices.specs.Asked.{against}
use Rattle.cob_move_loops.specs.Reading.{counters}
use Rattle.cob_move_tests.specs.Asked.{sender_named}
use Rattle.cob_move_tests.specs.Entries.{records_of}
use Rattle.cob_move.proofs.ChoosingLemmas.{test_unread}
use Rattle.cob_move.proofs.choosing.read_test.Goals as goal

pub returns-in-Err-clause-fault : goal.returns-in-Err-clause-fault
returns-in-Err-clause-fault c =
    test_unread c.not_read.result c.fault_of.result c.in-Err.rule c.args.entries.now (counters c.args.turn.now) (against (sender_named (records_of c.args.entries.now) c.args.made.now.asked.items) c.args.subject) (lexemes c.args.words.now)
    c.fault_of.ensures.0 (c.fault_of.ensures.1 ∙ c.first_line.ensures) c.not_read.ensures.memory c.not_read.ensures.broken c.in-Err.ensures.fault
