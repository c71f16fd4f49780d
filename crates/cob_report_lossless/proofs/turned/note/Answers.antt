use Rattle.std.proofs.Common.{◌∙◌, List, ap, arith, map, slice_set}
use Rattle.std.proofs.lemmas.List.{with_items_is}
use Rattle.cob_report_lossless.specs.Turned.{ToldLoop, plain_condition, told_loop}
use Rattle.cob_report_lossless.specs.declared.turned.LoopLine.{LoopLine}
use Rattle.cob_report_lossless.proofs.TurnedLemmas.{set_told, told_parts}
use Rattle.cob_report_lossless.proofs.turned.note.Goals as goal

pub returns : goal.returns
returns c =
    let ls : List LoopLine = c.args.lines.now.loops.items in
    ap (λ (ts : List ToldLoop). told_parts c.args.lines.now.statements.items ts (map plain_condition c.args.lines.now.conditions.items)) (
    ap (map told_loop) (
    with_items_is c.args.lines.now.loops c.put.new.loops (omega (arith, c.put.auto.loops, c.as_mut_slice.ensures.len))
    ∙ c.put.ensures ∙ ap (λ (xs : List LoopLine). slice_set xs c.args.bound c.in_ok-one.one) c.as_mut_slice.ensures.value
    )
    ∙ set_told ls c.args.bound c.in_ok-one.one
    ∙ ap (λ (t : ToldLoop). slice_set (map told_loop ls) c.args.bound t) c.in_ok-one.ensures
    )
