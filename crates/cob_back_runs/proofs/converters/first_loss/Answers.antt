use Rattle.std.proofs.Common.{subst}
use Rattle.std.specs.Prelude.{IfNone, IfSome}
use Rattle.cob_convert_record.specs.Conversion.{Conversion}
use Rattle.cob_back_runs.specs.Keeps.{AreLossless}
use Rattle.cob_back_runs.proofs.AnswerLemmas.{fine_kept}
use Rattle.cob_back_runs.proofs.converters.first_loss.Goals as goal

pub returns-clause-none : goal.returns-clause-none
returns-clause-none c =
    subst (λ (x : Conversion). IfNone c.first_point.result (AreLossless x c.args.back.now)) c.conversion-first.ensures
    (subst (λ (x : Conversion). IfNone c.first_point.result (AreLossless c.conversion-first.result.now x)) c.conversion-second.ensures c.first_point.ensures.none)

pub returns-clause-keeps : goal.returns-clause-keeps
returns-clause-keeps c =
    fine_kept c.lossless_keep.ensures c.first_point.result c.args.there.now c.args.back.now
    (rw c.conversion-first.ensures at c.carried.ensures.prepared) (rw c.conversion-second.ensures at c.carried-2.ensures.prepared)
    (subst (λ (x : Conversion). IfNone c.first_point.result (AreLossless x c.args.back.now)) c.conversion-first.ensures
    (subst (λ (x : Conversion). IfNone c.first_point.result (AreLossless c.conversion-first.result.now x)) c.conversion-second.ensures c.first_point.ensures.none))

pub returns-clause-lost : goal.returns-clause-lost
returns-clause-lost c =
    subst (λ (x : Conversion). IfSome c.first_point.result (λ l. AreLossless x c.args.back.now → ⊥)) c.conversion-first.ensures
    (subst (λ (x : Conversion). IfSome c.first_point.result (λ l. AreLossless c.conversion-first.result.now x → ⊥)) c.conversion-second.ensures c.first_point.ensures.lost)
