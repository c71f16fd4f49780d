use Rattle.std.proofs.Common.{ℕ, ◌*◌, ◌≤◌, sym, arith}
use Rattle.cob_picture.specs.declared.symbol.Symbol.TheVariants.{A}
use Rattle.cob_picture.specs.declared.symbol.Run.{Run}
use Rattle.cob_picture.proofs.Placed.{size_more}
use Rattle.cob_picture.proofs.counts.size_of.Goals as goal

product : (w n : ℕ) → w ≤ 2 → n ≤ 65535 → w * n ≤ 131070
product w n h k = grind arith

pub loop-run-preserved : goal.loop-run-preserved
loop-run-preserved c =
    let d : Run = record { symbol = A; count = 0 } in
    let more = size_more c.args.runs.now c.loop-run.run-index d c.loop-run-test.true in
    let p : c.width_of.result * c.from.result ≤ 131070 = product _ _ c.width_of.ensures.bound (omega arith) in
    record { value = rw (c.width_of.ensures.value, c.from.ensures, c.loop-run.invariant.value) (sym more); bound = omega arith }
