use Rattle.std.proofs.Common.{List, [], ◌∷◌, ◌++◌, length, map, sym, ap, ◌∙◌}
use Rattle.std.proofs.lemmas.List.{map-append}
use Rattle.cob_report_draft.specs.Loops.{Turning, loop_at, loops_along, turning}
use Rattle.cob_report_draft.proofs.LoopLemmas.{none_inside, one_inside}
use Rattle.cob_report_draft.proofs.loops.+loops_over.Goals as goal

pub returns-then-has_loop-clause-loops : goal.returns-then-has_loop-clause-loops
returns-then-has_loop-clause-loops t c =
    let outer = c.in-Some.outer.now in
    let own = c.in-Some.own.now in
    let here : Turning = loop_at (length outer) own in
    ap (λ ls. map turning ls) c.push.ensures.items
    ∙ map-append turning c.loops_over-loops.result.items (record { table = c.args.innermost; last = c.last_beneath-last.result; depth = length outer; turns = own.most; bound = own.bound } ∷ [])
    ∙ ap (λ (ls : List Turning). ls ++ here ∷ []) c.loops_over-loops.ensures.loops
    ∙ sym (one_inside outer own (sym c.has_loop.ensures ∙ c.if-has_loop.true))
    ∙ sym (ap loops_along c.in-Some.ensures.cases.0)

pub returns-clause-loops : goal.returns-clause-loops
returns-clause-loops t c =
    c.loops_over-loops.ensures.loops
    ∙ sym (none_inside c.in-Some.outer.now c.in-Some.own.now (sym c.has_loop.ensures ∙ c.if-has_loop.false))
    ∙ sym (ap loops_along c.in-Some.ensures.cases.0)
