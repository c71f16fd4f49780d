use Rattle.std.proofs.Common.{sym, ◌∙◌}
use Rattle.cob_layout.proofs.LegalLemmas.{none_legal}
use Rattle.cob_layout.proofs.legal.are_legal.Goals as goal

pub returns-in_default : goal.returns-in_default
returns-in_default c = sym (none_legal c.args.spots.now c.args.tables.now c.loop-table.table-index c.loop-table.rest.now c.loop-table-test.true c.in_default.ensures.cases) ∙ c.loop-table.invariant.same
