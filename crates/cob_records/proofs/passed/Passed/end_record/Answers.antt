use Rattle.std.proofs.Common.{min, ap, subst, sym, ◌+◌, ◌∙◌}
use Rattle.cob_records.specs.Device.{greatest_count}
use Rattle.cob_records.specs.Progress.{Counts}
use Rattle.cob_records.proofs.Passing.{counts_record}
use Rattle.cob_records.proofs.passed.Passed.end_record.Goals as goal

pub returns-clause-passed : goal.returns-clause-passed
returns-clause-passed c = λ bytes part h len is.
    let old = c.args.self.now in
    counts_record old.form old.greatest c.args.left c.args.room c.start-self.result old.records _ old.bytes _ bytes part
    (subst (λ p. Counts old.form old.greatest p old.records old.bytes bytes) is h) len c.start-self.ensures.at c.saturating_add-self.ensures
    (c.saturating_add-self-2.ensures ∙ ap (λ n. min (old.bytes + n) greatest_count) (sym len))
