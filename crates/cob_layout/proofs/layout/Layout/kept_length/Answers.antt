use Rattle.std.proofs.Common.{refl}
use Rattle.cob_layout.specs.Counting.{greatest_counts}
use Rattle.cob_layout.proofs.MeasuringLemmas.{greatest_measures}
use Rattle.cob_layout.proofs.WholeLemmas.{keeps_none}
use Rattle.cob_layout.proofs.layout.Layout.kept_length.Goals as goal

pub returns-then-not-varies-clause-ok : goal.returns-then-not-varies-clause-ok
returns-then-not-varies-clause-ok c =
    let u = c.args.self.now in (
      greatest_counts u,
      c.if-not-varies.ensures.same refl c.args.bytes.now,
      greatest_measures u c.greatest-greatest.result (c.records_are_sound.ensures u c.greatest-greatest.ensures.record) c.greatest-greatest.ensures.value,
    )

pub returns-then-not-varies-clause-kept : goal.returns-then-not-varies-clause-kept
returns-then-not-varies-clause-kept c =
    let u = c.args.self.now in (
      greatest_counts u,
      c.if-not-varies.ensures.same refl c.args.bytes.now,
      keeps_none u c.args.counts.now (greatest_counts u) c.requires.room c.if-not-varies.ensures.exact,
    )
