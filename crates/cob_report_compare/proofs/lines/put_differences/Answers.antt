use Rattle.std.proofs.Common.{rules, refl}
use Rattle.cob_report_compare.proofs.PrintLemmas.{all_printed, first_can, line_by, none_printed, one_printed}
use Rattle.cob_report_compare.proofs.PrintLemmas.{lines_of}
use Rattle.cob_report_compare.proofs.lines.put_differences.Goals as goal

pub loop-difference-init : goal.loop-difference-init
loop-difference-init g c = record {
  printable = c.requires;
  so_far = none_printed (lines_of c.args.left.now c.args.right.now) c.args.differences.now (g.W.Sink.taken c.args.sink.now);
  writes = search rules;
}

pub put_difference-requires : goal.put_difference-requires
put_difference-requires g c =
    (first_can c.args.left.now c.args.right.now c.args.differences.now c.loop-difference.difference-index c.difference-item.result c.loop-difference-test.true c.difference-item.is
    c.loop-difference.invariant.printable).0

pub loop-difference-preserved : goal.loop-difference-preserved
loop-difference-preserved g c = record {
  printable = (first_can c.args.left.now c.args.right.now c.args.differences.now c.loop-difference.difference-index c.difference-item.result c.loop-difference-test.true c.difference-item.is
      c.loop-difference.invariant.printable).1;
  so_far = one_printed (lines_of c.args.left.now c.args.right.now) _ c.args.differences.now c.args.differences.now c.loop-difference.difference-index c.difference-item.result _
      (g.W.Sink.taken c.loop-difference.sink) _ c.loop-difference-test.true
      (λ piece rest is are. (piece, rest, line_by c.args.left.now c.args.right.now _ _ piece c.difference-item.is is, are, refl)) c.loop-difference.invariant.so_far c.in_ok-put_difference.ensures.text;
  writes = search rules;
}

pub returns-clause-text : goal.returns-clause-text
returns-clause-text g c =
    all_printed (lines_of c.args.left.now c.args.right.now) c.args.differences.now c.args.differences.now c.loop-difference.difference-index _ _ c.loop-difference-test.false refl
    c.loop-difference.invariant.so_far
