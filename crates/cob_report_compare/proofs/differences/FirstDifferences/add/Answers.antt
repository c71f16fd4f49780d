use Rattle.std.proofs.Common.{refl}
use Rattle.cob_report_compare.specs.declared.differences.FirstDifferences.{FirstDifferences}
use Rattle.cob_report_compare.proofs.AddLemmas.{added_last, added_none, is_full, is_not_full}
use Rattle.cob_report_compare.proofs.differences.FirstDifferences.add.Goals as goal

pub returns-then-not-is_full : goal.returns-then-not-is_full
returns-then-not-is_full c =
    let now : FirstDifferences = record { first = c.push.new.self; count = c.saturating_add-self.result } in
    added_last c.args.difference c.args.self.now now (is_not_full c.is_full.result _ c.is_full.ensures.value c.is_full.ensures.fits c.if-not-is_full.true) c.push.ensures.items c.saturating_add-self.ensures

pub returns-else-not-is_full : goal.returns-else-not-is_full
returns-else-not-is_full c =
    let now : FirstDifferences = record { first = c.args.self.now.first; count = c.saturating_add-self.result } in
    added_none c.args.difference c.args.self.now now (is_full c.is_full.result _ c.is_full.ensures.value c.if-not-is_full.false) refl c.saturating_add-self.ensures
