use Rattle.cob_move_apply.specs.Applied.{ending}
use Rattle.cob_move_apply.specs.Surveyed.{records}
use Rattle.cob_move_apply.proofs.SeenLemmas.{pair_moved}
use Rattle.cob_move_apply.proofs.SpendingLemmas.{pair_is, spends_as}
use Rattle.cob_move_apply.proofs.pairs.make_pair_move.Goals as goal

pub returns-clause-moved : goal.returns-clause-moved
returns-clause-moved c =
    pair_moved c.args.layouts.now.reading (records c.args.layouts.now) c.args.group.now c.args.pair.now c.entry_below-from.result c.entry_below-to.result c.from_ref-entries.result.now c.args.input.now c.args.output.now
    (ending c.move_entry.result c.move_entry.new.output) c.entry_below-from.ensures c.entry_below-to.ensures c.from_ref-entries.ensures.value c.move_entry.ensures.moved

pub returns-clause-spends : goal.returns-clause-spends
returns-clause-spends c =
    spends_as (records c.args.layouts.now) _ _ c.args.input.now c.args.output.now c.move_entry.result c.move_entry.new.output _ _
    (pair_is c.args.layouts.now.reading (records c.args.layouts.now) c.args.group.now c.args.pair.now c.entry_below-from.result c.entry_below-to.result c.from_ref-entries.result.now
    c.entry_below-from.ensures c.entry_below-to.ensures c.from_ref-entries.ensures.value) c.move_entry.ensures.spends
