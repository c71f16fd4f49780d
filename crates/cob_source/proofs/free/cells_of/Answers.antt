use Rattle.std.proofs.Common.{ℕ, ◌+◌, length, ap, ◌∙◌, arith}
use Rattle.cob_source.proofs.FreeLemmas.{cells_on}
use Rattle.cob_source.proofs.free.cells_of.Goals as goal

pub loop-first-preserved : goal.loop-first-preserved
loop-first-preserved c =
    let k = ap (length {A = ℕ}) c.in-Some.ensures.cases.0 in
    record {
      few = omega (arith, k, c.loop-first.invariant.few);
      cells = cells_on c.loop-first.cells.items _ c.args.line (c.loop-first.count + 1) c.in-Some.first.now c.loop-first.rest.now c.in-Some.more.now c.in-Some.ensures.cases.0 c.in_ok-push.ensures.items ∙ c.loop-first.invariant.cells;
    }
