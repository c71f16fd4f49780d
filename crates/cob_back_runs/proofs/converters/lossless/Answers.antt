use Rattle.std.proofs.Common.{subst}
use Rattle.std.specs.Bool.{Decides}
use Rattle.cob_convert_record.specs.Conversion.{Conversion}
use Rattle.cob_back_runs.specs.Keeps.{AreLossless}
use Rattle.cob_back_runs.proofs.AnswerLemmas.{kept}
use Rattle.cob_back_runs.proofs.converters.lossless.Goals as goal

pub returns-clause-exactly : goal.returns-clause-exactly
returns-clause-exactly c =
    subst (λ (x : Conversion). Decides c.lose_nothing.result (AreLossless x c.args.back.now)) c.conversion-first.ensures
    (subst (λ (x : Conversion). Decides c.lose_nothing.result (AreLossless c.conversion-first.result.now x)) c.conversion-second.ensures c.lose_nothing.ensures)

pub returns-clause-keeps : goal.returns-clause-keeps
returns-clause-keeps c =
    kept c.lossless_keep.ensures c.lose_nothing.result c.args.there.now c.args.back.now
    (rw c.conversion-first.ensures at c.carried.ensures.prepared) (rw c.conversion-second.ensures at c.carried-2.ensures.prepared)
    (subst (λ (x : Conversion). Decides c.lose_nothing.result (AreLossless x c.args.back.now)) c.conversion-first.ensures
    (subst (λ (x : Conversion). Decides c.lose_nothing.result (AreLossless c.conversion-first.result.now x)) c.conversion-second.ensures c.lose_nothing.ensures))
