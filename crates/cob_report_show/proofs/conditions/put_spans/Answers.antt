use Rattle.std.proofs.Common.{rules, ◌+◌, drop, map}
use Rattle.std.specs.List.{flat_map}
use Rattle.std.proofs.lemmas.Result.{err_from_is_err_and}
use Rattle.cob_copybook_conditions.specs.Names.{plain_span}
use Rattle.cob_report_show.specs.Conditions.{span_text}
use Rattle.cob_report_show.proofs.TextLemmas.{all_text, cut_text, more_text, no_text, no_texts_left, texts_left}
use Rattle.cob_report_show.proofs.conditions.put_spans.Goals as goal

pub loop-span-init : goal.loop-span-init
loop-span-init g c = record {
  so_far = no_text (flat_map span_text (map plain_span c.args.spans.now)) c.args.sent.now (g.W.Sink.taken c.args.sink.now);
  writes = search rules;
  errors = search rules;
}

pub loop-span-preserved : goal.loop-span-preserved
loop-span-preserved g c =
    let texts = c.args.spans.now in
    let i = c.loop-span.span-index in
    record {
      so_far = more_text (flat_map span_text (map plain_span texts)) (flat_map span_text (map plain_span (drop i texts))) (span_text (plain_span c.span-item.result)) (flat_map span_text (map plain_span (drop (i + 1) texts)))
          c.args.sent.now c.loop-span.sent c.put_span.new.sent _ _ _ c.loop-span.invariant.so_far
          (texts_left plain_span span_text texts i c.span-item.result c.loop-span-test.true c.span-item.is) c.in_ok-put_span.ensures.lines;
      writes = search rules;
      errors = search rules;
    }

pub returns-in_err-put_span-clause-lines : goal.returns-in_err-put_span-clause-lines
returns-in_err-put_span-clause-lines g c =
    let texts = c.args.spans.now in
    let i = c.loop-span.span-index in
    let p = err_from_is_err_and c.from_residual.result c.from_residual.ensures.1 in
    rw p.1 (cut_text (flat_map span_text (map plain_span texts)) (flat_map span_text (map plain_span (drop i texts))) (span_text (plain_span c.span-item.result)) (flat_map span_text (map plain_span (drop (i + 1) texts)))
    c.args.sent.now c.loop-span.sent c.put_span.new.sent c.in_err-put_span.field-0.0 _ _ _ c.loop-span.invariant.so_far
    (texts_left plain_span span_text texts i c.span-item.result c.loop-span-test.true c.span-item.is) c.in_err-put_span.ensures.lines)

pub returns-clause-lines : goal.returns-clause-lines
returns-clause-lines g c =
    all_text (flat_map span_text (map plain_span c.args.spans.now)) (flat_map span_text (map plain_span (drop c.loop-span.span-index c.args.spans.now))) c.args.sent.now c.loop-span.sent _ _
    c.loop-span.invariant.so_far (no_texts_left plain_span span_text c.args.spans.now c.loop-span.span-index c.loop-span-test.false)
