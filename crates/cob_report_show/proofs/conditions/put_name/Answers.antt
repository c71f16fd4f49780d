use Rattle.std.proofs.Common.{◌++◌, ◌∷◌, [], ◌∙◌, ap, map, refl, Err}
use Rattle.std.specs.List.{flat_map}
use Rattle.std.proofs.lemmas.Result.{err_from_is_err_and}
use Rattle.cob_copybook_conditions.specs.Names.{plain_condition_name, plain_span}
use Rattle.cob_report_show.specs.Conditions.{name_front, span_text}
use Rattle.cob_report_show.proofs.TextLemmas.{both_sent, first_cut}
use Rattle.cob_report_show.proofs.conditions.put_name.Goals as goal

pub returns-in_err-put-clause-lines : goal.returns-in_err-put-clause-lines
returns-in_err-put-clause-lines g c =
    let n = plain_condition_name c.args.name.now in
    let p = err_from_is_err_and c.from_residual.result c.from_residual.ensures.1 in
    rw p.1 (first_cut c.as_slice.result.now (name_front n.name) (flat_map span_text n.values ++ 10 ∷ [])
    c.args.sent.now c.put.new.sent c.in_err-put.field-0.0 _ _ (c.as_slice.ensures.value ∙ c.front_of.ensures.text) c.in_err-put.ensures.lines)

pub returns-in_err-put_spans-clause-lines : goal.returns-in_err-put_spans-clause-lines
returns-in_err-put_spans-clause-lines g c =
    let n = plain_condition_name c.args.name.now in
    let values = flat_map span_text n.values in
    let fault = c.in_err-put_spans.field-0.0 in
    let p = err_from_is_err_and c.from_residual-in_err-put_spans.result c.from_residual-in_err-put_spans.ensures.1 in
    rw p.1 (both_sent c.as_slice.result.now (values ++ 10 ∷ []) (name_front n.name) (values ++ 10 ∷ [])
    c.args.sent.now c.put.new.sent c.put_spans.new.sent (Err fault) _ _ _ (c.as_slice.ensures.value ∙ c.front_of.ensures.text) refl c.in_ok-put.ensures.lines
    (first_cut (flat_map span_text (map plain_span c.as_slice-2.result.now)) values (10 ∷ []) c.put.new.sent c.put_spans.new.sent fault _ _
    (ap (λ spans. flat_map span_text (map plain_span spans)) c.as_slice-2.ensures.value) c.in_err-put_spans.ensures.lines))

pub returns-clause-lines : goal.returns-clause-lines
returns-clause-lines g c =
    let n = plain_condition_name c.args.name.now in
    let values = flat_map span_text n.values in
    both_sent c.as_slice.result.now (values ++ 10 ∷ []) (name_front n.name) (values ++ 10 ∷ [])
    c.args.sent.now c.put.new.sent c.put-2.new.sent c.put-2.result _ _ _ (c.as_slice.ensures.value ∙ c.front_of.ensures.text) refl c.in_ok-put.ensures.lines
    (both_sent (flat_map span_text (map plain_span c.as_slice-2.result.now)) (10 ∷ []) values (10 ∷ []) c.put.new.sent c.put_spans.new.sent c.put-2.new.sent c.put-2.result _ _ _
    (ap (λ spans. flat_map span_text (map plain_span spans)) c.as_slice-2.ensures.value) refl c.in_ok-put_spans.ensures.lines c.put-2.ensures.lines)
