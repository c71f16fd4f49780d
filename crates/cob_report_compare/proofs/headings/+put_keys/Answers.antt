use Rattle.std.proofs.Common.{◌∙◌}
use Rattle.cob_report_compare.proofs.PrintLemmas.{first_key_printed, no_keys_printed, on_ok}
use Rattle.cob_report_compare.proofs.headings.+put_keys.Goals as goal

pub returns-in_default-clause-text : goal.returns-in_default-clause-text
returns-in_default-clause-text g n c = no_keys_printed c.args.keys.now c.args.key.now (g.W.Sink.taken c.args.sink.now) c.in_default.ensures.cases

pub returns-clause-text : goal.returns-clause-text
returns-clause-text g n c =
    on_ok c.put_keys.result _ _
    (λ rest. first_key_printed c.args.keys.now c.in-Some.first.now c.in-Some.further.now c.args.key.now _ _ _ _ _ _ c.in-Some.ensures.cases.0 (rw c.size.ensures at c.split_at.ensures.front)
    (rw c.size.ensures at c.split_at.ensures.back) (rw (c.as_slice.ensures.value, c.key_name.ensures.text) at c.in_ok-put_text.ensures.text) c.in_ok-put_value.ensures.text rest)
    c.put_keys.ensures.text
