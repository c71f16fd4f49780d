-- The values so far.
use Rattle.std.proofs.Common.{drop}
use Rattle.std.specs.List.{flat_map}
use Rattle.std.specs.Fmt.{IsPlainFormatter}
use Rattle.cob_copybook_conditions.specs.Names.{plain_span}
use Rattle.cob_copybook_conditions.specs.declared.spans.Span.{Span}
use Rattle.cob_report_show.specs.Conditions.{span_text}
use Rattle.cob_report_boxes.specs.Shown.{shown}
use Rattle.cob_report_boxes.proofs.WrittenLemmas.{WroteSoFar}
use Rattle.cob_report_boxes.proofs.conditions.write_spans.Given as goal

abbrev pub invariant-loop-span : goal.invariant-loop-span
invariant-loop-span g l =
    IsPlainFormatter l.fn.f
    → WroteSoFar g.W.Write.write_str_gives l.fn.f (flat_map (λ (s : Span). shown (span_text (plain_span s))) l.spans) (flat_map (λ (s : Span). shown (span_text (plain_span s))) (drop l.span-index l.spans)) l.f
