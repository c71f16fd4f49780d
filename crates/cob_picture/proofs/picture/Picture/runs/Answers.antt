use Rattle.std.proofs.Common.{false}
use Rattle.cob_picture.specs.Positions.{written_out, floating}
use Rattle.cob_picture.proofs.Placed.{symbols_placed}
use Rattle.cob_picture.proofs.picture.Picture.runs.Goals as goal

pub returns-clause-symbols : goal.returns-clause-symbols
returns-clause-symbols c = rw (← c.self.view_is, c.as_slice.ensures.value) (symbols_placed c.self.inside.category (floating (written_out c.self.inside.runs.items)) false (written_out c.self.inside.runs.items))
