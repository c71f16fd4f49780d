use Rattle.cob_move_apply.proofs.ReadingLemmas.{read_so}
use Rattle.cob_move_apply.proofs.moves.Moves.with_reading.Goals as goal

pub returns-clause-moves : goal.returns-clause-moves
returns-clause-moves c r = read_so c.args.reading c.args.self.reading r c.args.self.statements.items
