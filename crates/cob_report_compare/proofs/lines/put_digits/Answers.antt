use Rattle.std.proofs.Common.{rules, refl, ◌∙◌}
use Rattle.cob_report_compare.proofs.PrintLemmas.{all_printed, digit_lines, digits_more, none_printed, one_printed}
use Rattle.cob_report_compare.proofs.lines.put_digits.Goals as goal

pub loop-byte-init : goal.loop-byte-init
loop-byte-init g c = record { so_far = none_printed digit_lines c.args.bytes.now (g.W.Sink.taken c.args.sink.now); writes = search rules }

pub loop-byte-preserved : goal.loop-byte-preserved
loop-byte-preserved g c = record {
  so_far = one_printed digit_lines _ c.args.bytes.now c.args.bytes.now c.loop-byte.byte-index 0 _ (g.W.Sink.taken c.loop-byte.sink) _ c.loop-byte-test.true
      (λ piece rest is are. digits_more _ _ piece rest (is ∙ c.as_slice.ensures.value ∙ c.digits_of.ensures.digits) are) c.loop-byte.invariant.so_far c.in_ok-put_text.ensures.text;
  writes = search rules;
}

pub returns-clause-text : goal.returns-clause-text
returns-clause-text g c = all_printed digit_lines c.args.bytes.now c.args.bytes.now c.loop-byte.byte-index _ _ c.loop-byte-test.false refl c.loop-byte.invariant.so_far
