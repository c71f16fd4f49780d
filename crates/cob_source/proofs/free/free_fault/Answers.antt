use Rattle.std.proofs.Common.{sym, ◌∙◌}
use Rattle.cob_source.proofs.FreeLemmas.{fits_free}
use Rattle.cob_source.proofs.free.free_fault.Goals as goal

pub returns-else-leaves_open-clause-none : goal.returns-else-leaves_open-clause-none
returns-else-leaves_open-clause-none c =
    fits_free c.args.line.now (sym c.holds_free_tab.ensures ∙ c.if-holds_free_tab.false) (sym c.holds_free_foreign.ensures ∙ c.if-holds_free_foreign.false) (sym c.is_too_long.ensures ∙ c.if-is_too_long.false)
    (sym c.leaves_open.ensures ∙ c.if-leaves_open.false)
