use Rattle.std.proofs.Common.{subst}
use Rattle.cob_move_steps.specs.Long.{IsLongReaderFor}
use Rattle.cob_move_steps.proofs.long_step.LongStep.run_edited.Goals as goal

pub returns-clause-gets : goal.returns-clause-gets
returns-clause-gets c = λ kind.
    c.put.ensures.gets c.args.from.now (λ from reading is suits within.
    c.read-read.ensures from reading (subst (λ x. IsLongReaderFor from x) kind is) within)
