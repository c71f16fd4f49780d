use Rattle.std.proofs.Common.{ap, ◌∙◌}
use Rattle.cob_report_draft.specs.Loops.{loops_along}
use Rattle.cob_report_draft.proofs.LoopLemmas.{fixed_loops}
use Rattle.cob_report_draft.proofs.loops.loops_of.Goals as goal

pub returns-clause-fixed : goal.returns-clause-fixed
returns-clause-fixed c = λ from to.
    c.loops_over.ensures.loops
    ∙ ap loops_along (c.as_slice.ensures.value ∙ c.levels_of-levels.ensures)
    ∙ fixed_loops c.args.counts c.args.pair.now.from.now.entry.tables.items c.args.pair.now.to.now.entry.tables.items from to
