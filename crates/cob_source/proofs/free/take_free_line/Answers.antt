use Rattle.std.proofs.Common.{arith}
use Rattle.cob_source.proofs.FreeLemmas.{closed_line, short_line}
use Rattle.cob_source.proofs.free.take_free_line.Goals as goal

pub cells_of-requires : goal.cells_of-requires
cells_of-requires c = omega (arith, short_line c.args.line.now c.in_default.ensures.none, c.said_in.ensures.shorter)

pub cut-requires : goal.cut-requires
cut-requires c = rw (c.as_slice.ensures.value, c.in_ok-cells.ensures, c.said_in.ensures.said) (closed_line c.args.line.now c.args.number c.in_default.ensures.none)
