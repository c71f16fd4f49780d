use Rattle.std.proofs.Common.{ap}
use Rattle.cob_move_apply.specs.declared.marking.Mark.{Mark}
use Rattle.cob_move_apply.proofs.MarkLemmas.{mark_read}
use Rattle.cob_move_apply.proofs.marked.MarkedMoves.statements_before.Goals as goal

pub returns : goal.returns
returns c = ap (λ (m : Mark). m.statement) (mark_read c.args.self.now.marks.items c.args.mark c.index.result.now c.requires.within c.index.ensures)
