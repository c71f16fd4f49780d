use Rattle.std.proofs.Common.{sym, ap, ◌∙◌}
use Rattle.cob_report_partners.proofs.CounterLemmas.{is_listed, taken_first, taken_rest}
use Rattle.cob_report_partners.proofs.counters.is_taken.Goals as goal

pub returns-then-is_taken_among : goal.returns-then-is_taken_among
returns-then-is_taken_among c =
    let r = c.args.records.now in
    let name = c.args.name.now in
    sym (taken_first name r.inputs.items r.outputs.items (ap (is_listed name) (sym c.inputs.ensures) ∙ sym c.is_taken_among.ensures ∙ c.if-is_taken_among.true))

pub returns : goal.returns
returns c =
    let r = c.args.records.now in
    let name = c.args.name.now in
    c.is_taken_among-2.ensures ∙ ap (is_listed name) c.outputs.ensures
    ∙ sym (taken_rest name r.inputs.items r.outputs.items (ap (is_listed name) (sym c.inputs.ensures) ∙ sym c.is_taken_among.ensures ∙ c.if-is_taken_among.false))
