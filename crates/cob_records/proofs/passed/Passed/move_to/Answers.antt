use Rattle.std.proofs.Common.{min, ap, sym, ◌+◌, ◌∙◌}
use Rattle.cob_records.specs.Device.{greatest_count}
use Rattle.cob_records.proofs.Passing.{counts_more}
use Rattle.cob_records.proofs.passed.Passed.move_to.Goals as goal

pub returns-clause-passed : goal.returns-clause-passed
returns-clause-passed c = λ bytes part h len leads.
    let old = c.args.self.now in
    counts_more old.form old.greatest old.place c.args.place old.records old.bytes _ bytes part h leads
    (c.saturating_add-self.ensures ∙ ap (λ n. min (old.bytes + n) greatest_count) (sym len))
