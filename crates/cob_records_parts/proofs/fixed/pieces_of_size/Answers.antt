use Rattle.std.proofs.Common.{rules, arith, refl}
use Rattle.std.proofs.lemmas.Result.{IfOk-weaker}
use Rattle.std.proofs.Math.Nat.{div-le_self}
use Rattle.cob_records_parts.proofs.Cutting.{fixed_begun, fixed_ended, fixed_more, whole_within}
use Rattle.cob_records_parts.proofs.fixed.pieces_of_size.Goals as goal

pub loop-done-init : goal.loop-done-init
loop-done-init c = record {
  so_far = λ bytes long. fixed_begun c.args.greatest c.args.size c.new-pieces.result.items bytes (search rules) long;
  few = search rules;
  records = omega (arith, div-le_self c.args.size c.from.result);
  within = omega (arith, whole_within c.args.size c.from.result c.args.greatest c.from.ensures);
}

pub loop-done-preserved : goal.loop-done-preserved
loop-done-preserved c = record {
  so_far = λ bytes long. fixed_more c.args.greatest c.args.size c.loop-done.pieces.items c.push_piece.new.pieces.items c.loop-done.start _ c.share-count.result c.bytes_of-bytes.result bytes
      (c.loop-done.invariant.so_far bytes long) c.bytes_of-bytes.ensures.value c.bytes_of-bytes.ensures.some (omega (arith, c.bytes_of-bytes.ensures.within, c.loop-done.invariant.within))
      c.in_ok-push_piece.ensures.added refl;
  few = search rules;
  records = search rules;
  within = search rules;
}

pub returns-then-count-left-clause-cut : goal.returns-then-count-left-clause-cut
returns-then-count-left-clause-cut c =
    IfOk-weaker c.finish.result _ _ (λ all ends bytes long. fixed_ended c.args.greatest c.args.size c.loop-done.pieces.items all.items c.loop-done.start bytes
    (c.loop-done.invariant.so_far bytes long) ends) c.finish.ensures.last

pub returns-clause-cut : goal.returns-clause-cut
returns-clause-cut c =
    IfOk-weaker c.finish-2.result _ _ (λ all ends bytes long. fixed_ended c.args.greatest c.args.size c.loop-done.pieces.items all.items c.loop-done.start bytes
    (c.loop-done.invariant.so_far bytes long) ends) c.finish-2.ensures.last
