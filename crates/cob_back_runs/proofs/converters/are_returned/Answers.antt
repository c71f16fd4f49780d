use Rattle.cob_back_runs.proofs.AnswerLemmas.{decided}
use Rattle.cob_back_runs.proofs.converters.are_returned.Goals as goal

pub returns : goal.returns
returns c =
    decided c.is_lossless.result c.args.there.now c.args.back.now _ _ _ _ c.carried.ensures.records c.carried-2.ensures.records c.carried.ensures.moves c.carried-2.ensures.moves
    c.is_lossless.ensures
