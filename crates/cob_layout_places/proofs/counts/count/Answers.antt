use Rattle.cob_layout_places.proofs.CountLemmas.{no_value, below_least}
use Rattle.cob_layout_places.proofs.counts.count.Goals as goal

pub returns-in_err-count-clause-none : goal.returns-in_err-count-clause-none
returns-in_err-count-clause-none c = no_value c.args.item.now c.args.table c.args.part.now c.from_residual.result c.in_err-count.ensures.none

pub returns-then-count-table-clause-none : goal.returns-then-count-table-clause-none
returns-then-count-table-clause-none c =
    below_least c.args.item.now c.args.table c.args.part.now c.in_ok-count.count c.in_ok-count.ensures.found.0 c.if-count-table.true
