use Rattle.std.proofs.Common.{rules, drop, ◌+◌, sym, map, ◌∙◌}
use Rattle.std.specs.List.{flat_map}
use Rattle.std.proofs.Output.{has_written_of_eq}
use Rattle.cob_copybook_conditions.specs.Names.{PlainSpan, plain_span}
use Rattle.cob_copybook_conditions.specs.declared.spans.Span.{Span}
use Rattle.cob_report_show.specs.Conditions.{span_text}
use Rattle.cob_report_boxes.specs.Shown.{shown}
use Rattle.cob_report_boxes.proofs.WrittenLemmas.{all_written, each_of_map, more_written, no_texts_left, none_written, shown_each, texts_left}
use Rattle.cob_report_boxes.proofs.conditions.write_spans.Goals as goal

pub loop-span-init : goal.loop-span-init
loop-span-init g c = λ plain. none_written _ c.args.f.now (flat_map (λ (s : Span). shown (span_text (plain_span s))) c.args.spans.now) plain

pub loop-span-preserved : goal.loop-span-preserved
loop-span-preserved g c = λ plain.
    let text = (λ (s : Span). shown (span_text (plain_span s))) in
    let i = c.loop-span.span-index in
    let so_far = c.loop-span.invariant plain in
    let wrote = so_far.1 in
    more_written _ c.args.f.now c.loop-span.f c.write_span.new.f (flat_map text c.args.spans.now) (flat_map text (drop i c.args.spans.now)) (text c.span-item.result)
    (flat_map text (drop (i + 1) c.args.spans.now)) so_far (texts_left text c.args.spans.now i c.span-item.result c.loop-span-test.true c.span-item.is) (search rules)

pub returns : goal.returns
returns g c = λ plain _.
    let text = (λ (s : Span). shown (span_text (plain_span s))) in
    has_written_of_eq _ _ _ _ _ (sym (shown_each span_text (map plain_span c.args.spans.now) ∙ each_of_map plain_span (λ (s : PlainSpan). shown (span_text s)) c.args.spans.now))
    (all_written _ c.args.f.now c.loop-span.f (flat_map text c.args.spans.now) (flat_map text (drop c.loop-span.span-index c.args.spans.now))
    (c.loop-span.invariant plain) (no_texts_left text c.args.spans.now c.loop-span.span-index c.loop-span-test.false))
