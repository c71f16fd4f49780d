use Rattle.cob_move_apply.specs.Applied.{ending}
use Rattle.cob_move_apply.specs.Surveyed.{records}
use Rattle.cob_move_apply.proofs.PartLemmas.{pair_moved, pair_placed, receivers_at}
use Rattle.cob_move_apply.proofs.SpendingLemmas.{pair_of_part, single_of_part, spends_as}
use Rattle.cob_move_apply.proofs.application.make_part.Goals as goal

pub make_move-requires-clause-receivers : goal.make_move-requires-clause-receivers
make_move-requires-clause-receivers c =
    let (m, part) = c.requires.part in
    receivers_at c.args.layouts.now.reading (records c.args.layouts.now) c.args.given.now c.args.bases.now c.args.part m c.index-given-part.result c.in-Single.single c.as_slice.result.now part
    c.index-given-part.is c.in-Single.is c.as_slice.ensures.value

pub make_pair_move-requires-clause-placed : goal.make_pair_move-requires-clause-placed
make_pair_move-requires-clause-placed c =
    let (m, part) = c.requires.part in
    pair_placed c.args.layouts.now.reading (records c.args.layouts.now) c.args.given.now c.args.bases.now c.args.part m c.index-given-part.result c.in-Pairs.group c.index-pair.result.now part
    c.index-given-part.is c.in-Pairs.is c.index-pair.ensures

pub returns-in-Pairs-clause-moved : goal.returns-in-Pairs-clause-moved
returns-in-Pairs-clause-moved c = λ m part.
    pair_moved c.args.layouts.now.reading (records c.args.layouts.now) c.args.given.now c.args.bases.now c.args.part m c.index-given-part.result c.in-Pairs.group c.index-pair.result.now c.args.input.now c.args.output.now
    (ending c.make_pair_move.result c.make_pair_move.new.output) part c.index-given-part.is c.in-Pairs.is c.index-pair.ensures c.make_pair_move.ensures.moved

pub returns-in-Single-clause-spends : goal.returns-in-Single-clause-spends
returns-in-Single-clause-spends c = λ m part.
    spends_as (records c.args.layouts.now) _ m c.args.input.now c.args.output.now c.make_move.result c.make_move.new.output _ _
    (single_of_part c.args.layouts.now.reading (records c.args.layouts.now) c.args.given.now c.args.bases.now c.args.part m c.index-given-part.result c.in-Single.single c.as_slice.result.now part
    c.index-given-part.is c.in-Single.is c.as_slice.ensures.value) c.make_move.ensures.spends

pub returns-in-Pairs-clause-spends : goal.returns-in-Pairs-clause-spends
returns-in-Pairs-clause-spends c = λ m part.
    spends_as (records c.args.layouts.now) _ m c.args.input.now c.args.output.now c.make_pair_move.result c.make_pair_move.new.output _ _
    (pair_of_part c.args.layouts.now.reading (records c.args.layouts.now) c.args.given.now c.args.bases.now c.args.part m c.index-given-part.result c.in-Pairs.group c.index-pair.result.now part
    c.index-given-part.is c.in-Pairs.is c.index-pair.ensures) c.make_pair_move.ensures.spends
