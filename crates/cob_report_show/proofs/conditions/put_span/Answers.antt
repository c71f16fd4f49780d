use Rattle.std.proofs.Common.{◌++◌, ◌∷◌, ◌∙◌, refl}
use Rattle.std.proofs.lemmas.Result.{err_from_is_err_and}
use Rattle.std.specs.Prelude.{codes}
use Rattle.cob_copybook_entry.specs.Described.{plain_value}
use Rattle.cob_report_show.specs.Constants.{constant_text}
use Rattle.cob_report_show.proofs.TextLemmas.{both_sent, first_cut}
use Rattle.cob_report_show.proofs.conditions.put_span.Goals as goal

pub returns-in_err-put-in-FromTo-clause-lines : goal.returns-in_err-put-in-FromTo-clause-lines
returns-in_err-put-in-FromTo-clause-lines g c =
    let first = 32 ∷ constant_text (plain_value c.in-FromTo.first) in
    let last = codes " THRU " ++ constant_text (plain_value c.in-FromTo.last) in
    let p = err_from_is_err_and c.from_residual.result c.from_residual.ensures.1 in
    rw (p.1, c.in-FromTo.is) (first_cut c.as_slice-in-FromTo.result.now first last
    c.args.sent.now c.put-in-FromTo.new.sent c.in_err-put-in-FromTo.field-0.0 _ _ (c.as_slice-in-FromTo.ensures.value ∙ c.constant_behind-in-FromTo.ensures.text) c.in_err-put-in-FromTo.ensures.lines)

pub returns-in_ok-put-in-FromTo-clause-lines : goal.returns-in_ok-put-in-FromTo-clause-lines
returns-in_ok-put-in-FromTo-clause-lines g c =
    let first = 32 ∷ constant_text (plain_value c.in-FromTo.first) in
    let last = codes " THRU " ++ constant_text (plain_value c.in-FromTo.last) in
    rw c.in-FromTo.is (both_sent c.as_slice-in-FromTo.result.now c.as_slice-in-FromTo-2.result.now first last
    c.args.sent.now c.put-in-FromTo.new.sent c.put-in-FromTo-2.new.sent c.put-in-FromTo-2.result _ _ _ (c.as_slice-in-FromTo.ensures.value ∙ c.constant_behind-in-FromTo.ensures.text)
    (c.as_slice-in-FromTo-2.ensures.value ∙ c.constant_behind-in-FromTo-2.ensures.text) c.in_ok-put-in-FromTo.ensures.lines c.put-in-FromTo-2.ensures.lines)
