use Rattle.std.proofs.Common.{take, drop, arith}
use Rattle.std.proofs.lemmas.Grind.{common_steps}
use Rattle.cob_program_faults.proofs.Pieces.{piece_behind}
use Rattle.cob_program_faults.proofs.whole_text.read_piece.Goals as goal

pub returns-clause-bytes : goal.returns-clause-bytes
returns-clause-bytes g c = (
  take c.in_ok-count.count (drop c.len-before.result c.read_behind.new.room),
  piece_behind c.args.bytes.now.items c.read_behind.new.room c.truncate.new.self.items c.len-before.result c.in_ok-count.count
      (grind (arith, common_steps, c.in_ok-count.ensures.front, c.deref_mut.ensures.value, c.in_ok-resize.ensures.items)) (grind (arith, common_steps)),
  c.in_ok-count.ensures.bytes,
)
