use Rattle.std.proofs.Common.{false, length, take, sym, ap, arith}
use Rattle.cob_picture.specs.declared.symbol.Symbol.TheVariants.{A}
use Rattle.cob_picture.specs.declared.symbol.Run.{Run}
use Rattle.cob_picture.specs.declared.position.Position.{Position}
use Rattle.cob_picture.specs.Positions.{written_out, floating}
use Rattle.cob_picture.proofs.EditedFacts.{positive_at}
use Rattle.cob_picture.proofs.Placed.{length_placed, length_taken, placed_more, seen_more}
use Rattle.cob_picture.proofs.position.positions_of.Goals as goal

pub push_run-requires : goal.push_run-requires
push_run-requires c =
    let d : Run = record { symbol = A; count = 0 } in
    let held = ap (length {A = Position}) c.loop-run.invariant.items in
    omega (arith, held, length_placed c.args.category (floating (written_out c.args.runs.now)) false (written_out (take c.loop-run.run-index c.args.runs.now)), length_taken c.args.runs.now c.loop-run.run-index d c.loop-run-test.true, c.requires.few)

pub loop-run-preserved : goal.loop-run-preserved
loop-run-preserved c =
    let d : Run = record { symbol = A; count = 0 } in
    let q = floating (written_out c.args.runs.now) in
    let more = placed_more c.args.category q false c.args.runs.now c.loop-run.run-index d c.loop-run-test.true in
    let seen = seen_more q false c.args.runs.now c.loop-run.run-index d c.loop-run-test.true (positive_at c.args.runs.now c.loop-run.run-index d c.loop-run-test.true c.requires.positive) in
    record {
      items = rw (c.push_run.ensures, c.loop-run.invariant.items, c.loop-run.invariant.seen, c.floating_of-floating.ensures) (sym more);
      seen = rw (c.is_seen_by-seen.ensures, c.loop-run.invariant.seen, c.floating_of-floating.ensures) (sym seen);
    }
