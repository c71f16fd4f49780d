use Rattle.std.proofs.Common.{arith, length-take-le, sym}
use Rattle.cob_report_explain.proofs.values.Told.of.Goals as goal

pub slice_bounds-result-end : goal.slice_bounds-result-end
slice_bounds-result-end c = sym (length-take-le 64 c.args.bytes.now (omega (arith, c.if-bytes.false)))
