use Rattle.std.proofs.Common.{sym, arith}
use Rattle.cob_picture.specs.declared.symbol.Symbol.TheVariants.{A}
use Rattle.cob_picture.specs.declared.symbol.Run.{Run}
use Rattle.cob_picture.proofs.EditedFacts.{unscaled_more, positive_at}
use Rattle.cob_picture.proofs.edited.unscaled.Goals as goal

pub keep-requires-clause-some : goal.keep-requires-clause-some
keep-requires-clause-some c =
    let d : Run = record { symbol = A; count = 0 } in
    positive_at c.args.runs.now c.loop-run.run-index d c.loop-run-test.true c.requires.positive

pub loop-run-preserved : goal.loop-run-preserved
loop-run-preserved c =
    let d : Run = record { symbol = A; count = 0 } in
    let more = unscaled_more c.args.runs.now c.loop-run.run-index d c.loop-run-test.true in
    record {
      symbols = rw (c.keep.ensures.symbols, c.loop-run.invariant.symbols) (sym more);
      few = omega (arith, c.keep.ensures.few, c.loop-run.invariant.few);
      positive = c.keep.ensures.positive;
    }
