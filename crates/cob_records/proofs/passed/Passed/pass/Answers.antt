use Rattle.std.proofs.Common.{arith, length, take}
use Rattle.cob_records.proofs.Passing.{lost_step, record_step, whole_take}
use Rattle.cob_records.proofs.passed.Passed.pass.Goals as goal

pub returns-in-Record-clause-passed : goal.returns-in-Record-clause-passed
returns-in-Record-clause-passed c = λ bytes h.
    let old = c.args.self.now in
    let part = take c.move_to-in-Record.result c.args.piece.now in
    let len = whole_take c.move_to-in-Record.result c.args.piece.now c.move_to-in-Record.ensures.count in
    c.move_to-in-Record.ensures.passed bytes part h len (record_step old.form old.greatest c.in-Record.left c.in-Record.room (length c.args.piece.now) old.place part c.in-Record.is len (omega arith))

pub returns-in-Lost-clause-passed : goal.returns-in-Lost-clause-passed
returns-in-Lost-clause-passed c = λ bytes h.
    let old = c.args.self.now in
    let part = take c.move_to-in-Lost.result c.args.piece.now in
    let len = whole_take c.move_to-in-Lost.result c.args.piece.now c.move_to-in-Lost.ensures.count in
    c.move_to-in-Lost.ensures.passed bytes part h len (lost_step old.form old.greatest old.place part c.in-Lost.is)
