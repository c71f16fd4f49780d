use Rattle.std.proofs.Common.{arith}
use Rattle.cob_move_data.specs.Moves.{Records, sender_by}
use Rattle.cob_move_apply.specs.Surveyed.{records}
use Rattle.cob_move_apply.proofs.ByRuleLemmas.{none_first, placed_behind, placed_sender}
use Rattle.cob_move_apply.proofs.by_rule.apply_single.Goals as goal

pub make_move-requires-clause-sender : goal.make_move-requires-clause-sender
make_move-requires-clause-sender c =
    let x = c.args.layouts.now.reading in
    let r : Records = records c.args.layouts.now in
    placed_sender r (sender_by x r c.args.single.now.sender) _ c.requires.moved.sender (none_first c.args.unnoted.now _ c.requires.none (omega (arith, c.requires.room)))

pub make_move-requires-clause-receivers : goal.make_move-requires-clause-receivers
make_move-requires-clause-receivers c =
    let x = c.args.layouts.now.reading in
    let r : Records = records c.args.layouts.now in
    placed_behind x r c.args.single.now c.as_slice-entries.result.now c.args.unnoted.now _ c.as_slice-entries.ensures.value c.requires.moved c.requires.none (omega arith) c.requires.room
