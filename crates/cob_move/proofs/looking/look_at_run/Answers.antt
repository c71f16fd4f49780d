use Rattle.cob_source.specs.Tokens.{lexemes}
use Rattle.cob_move_loops.specs.Reading.{counters}
use Rattle.cob_move.proofs.LookLemmas.{run_stops}
use Rattle.cob_move.proofs.looking.look_at_run.Goals as goal

pub returns-clause-stops : goal.returns-clause-stops
returns-clause-stops c =
    run_stops c.not_read.result c.in-Err.fault c.args.entries.now (counters c.args.turn.now) (lexemes c.args.words.now) c.not_read.ensures.memory c.not_read.ensures.broken c.in-Err.ensures.fault
