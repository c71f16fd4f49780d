use Rattle.std.proofs.Common.{arith, refl}
use Rattle.cob_report_compare.proofs.BytesLemmas.{all_bytes, byte_more, no_byte}
use Rattle.cob_report_compare.proofs.bytes.byte_differences.Goals as goal

pub loop-offset-init : goal.loop-offset-init
loop-offset-init c = record { so_far = no_byte c.args.left.now c.args.right.now _ c.new.ensures refl; few = omega arith }

pub loop-offset-preserved : goal.loop-offset-preserved
loop-offset-preserved c = record {
  so_far = byte_more c.args.left.now c.args.right.now c.loop-offset.offset 0 0 c.loop-offset.told c.note_byte.new.told (omega (arith, c.loop-offset-test.true)) (omega (arith, c.loop-offset-test.true))
      c.note_byte.ensures.told c.loop-offset.invariant.so_far;
  few = omega (arith, c.note_byte.ensures.few, c.loop-offset.invariant.few);
}

pub returns : goal.returns
returns c = all_bytes c.args.left.now c.args.right.now c.loop-offset.offset c.loop-offset.told (omega (arith, c.loop-offset-test.false)) c.loop-offset.invariant.so_far
