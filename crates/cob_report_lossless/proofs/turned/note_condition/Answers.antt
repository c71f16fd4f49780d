use Rattle.std.proofs.Common.{◌∙◌, ℕ, List, ap, arith, map, slice_set}
use Rattle.std.proofs.lemmas.List.{with_items_is}
use Rattle.cob_report_lossless.specs.Turned.{ToldCondition, plain_condition, told_loop}
use Rattle.cob_report_lossless.specs.declared.turned.ConditionLine.{ConditionLine}
use Rattle.cob_report_lossless.proofs.TurnedLemmas.{set_condition, told_parts}
use Rattle.cob_report_lossless.proofs.turned.note_condition.Goals as goal

pub returns : goal.returns
returns c =
    let cs : List ConditionLine = c.args.lines.now.conditions.items in
    let one : ConditionLine = record { kind = c.args.kind; line = c.first_line.result } in
    ap (λ (ts : List ToldCondition). told_parts c.args.lines.now.statements.items (map told_loop c.args.lines.now.loops.items) ts) (
    ap (map plain_condition) (
    with_items_is c.args.lines.now.conditions c.put_condition.new.conditions (omega (arith, c.put_condition.auto.conditions, c.as_mut_slice.ensures.len))
    ∙ c.put_condition.ensures ∙ ap (λ (xs : List ConditionLine). slice_set xs c.args.condition one) c.as_mut_slice.ensures.value
    )
    ∙ set_condition cs c.args.condition one
    ∙ ap (λ (n : ℕ). slice_set (map plain_condition cs) c.args.condition (record { kind = c.args.kind; line = n })) c.first_line.ensures
    )
