use Rattle.cob_back_runs.proofs.AnswerLemmas.{fine, lost}
use Rattle.cob_back_runs.proofs.converters.first_of_moves.Goals as goal

pub returns-in-None-clause-none : goal.returns-in-None-clause-none
returns-in-None-clause-none c =
    rw c.in-None.is at (fine c.first_loss.result c.args.there.now c.args.back.now _ _ _ _ c.carried.ensures.records c.carried-2.ensures.records c.carried.ensures.moves c.carried-2.ensures.moves
    c.first_loss.ensures.none)

pub returns-in-Some-clause-lost : goal.returns-in-Some-clause-lost
returns-in-Some-clause-lost c =
    rw c.in-Some.is at (lost c.first_loss.result _ _ c.args.there.now c.args.back.now c.carried.ensures.records c.carried-2.ensures.records c.carried.ensures.moves c.carried-2.ensures.moves
    c.first_loss.ensures.loss)
