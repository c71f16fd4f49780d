use Rattle.std.proofs.Common.{refl, arith}
use Rattle.cob_layout.specs.Counting.{greatest_counts}
use Rattle.cob_layout.proofs.MeasuringLemmas.{greatest_measures, measures, measures_some}
use Rattle.cob_layout.proofs.layout.Layout.current_length.Goals as goal

pub returns-then-not-varies-clause-ok : goal.returns-then-not-varies-clause-ok
returns-then-not-varies-clause-ok c =
    let u = c.args.self.now in (
      greatest_counts u,
      c.if-not-varies.ensures.same refl c.args.bytes.now,
      greatest_measures u c.greatest-greatest.result (c.records_are_sound.ensures u c.greatest-greatest.ensures.record) c.greatest-greatest.ensures.value,
    )

pub overflow_cast-result : goal.overflow_cast-result
overflow_cast-result c =
    let u = c.args.self.now in
    let (cs, counted, is) = c.in_ok-made.ensures.ok in
    let m = measures u cs c.in_ok-made.made (c.records_are_sound.ensures u c.greatest-greatest.ensures.record) is in
    omega (arith, m.small)

pub returns-clause-least : goal.returns-clause-least
returns-clause-least c =
    let u = c.args.self.now in
    let (cs, counted, is) = c.in_ok-made.ensures.ok in
    measures_some u cs c.in_ok-made.made (c.records_are_sound.ensures u c.greatest-greatest.ensures.record) c.greatest-greatest.ensures.bytes is

pub returns-clause-most : goal.returns-clause-most
returns-clause-most c =
    let u = c.args.self.now in
    let (cs, counted, is) = c.in_ok-made.ensures.ok in
    (measures u cs c.in_ok-made.made (c.records_are_sound.ensures u c.greatest-greatest.ensures.record) is).most
