use Rattle.cob_move_apply.proofs.ReadingLemmas.{read_so}
use Rattle.cob_move_apply.specs.Marked.{items_between, mark_at}
use Rattle.cob_move_apply.proofs.marked.MarkedMoves.with_reading.Goals as goal

pub returns-clause-moves : goal.returns-clause-moves
returns-clause-moves c r = read_so c.args.reading c.args.self.moves.reading r c.args.self.moves.statements.items

pub returns-clause-between : goal.returns-clause-between
returns-clause-between c r from to =
    read_so c.args.reading c.args.self.moves.reading r
    (items_between (mark_at c.args.self.marks.items from).statement (mark_at c.args.self.marks.items to).statement c.args.self.moves.statements.items)
