use Rattle.std.proofs.Common.{[], ◌∷◌, ap, map, ◌∙◌}
use Rattle.std.proofs.lemmas.List.{map-append}
use Rattle.cob_back_moves.specs.Tested.{layout_records}
use Rattle.cob_move_data.proofs.SingleLemmas.{mapped_done, mapped_more}
use Rattle.cob_move_data.specs.Singles.{plain_single, singles_of}
use Rattle.cob_back_losses.specs.Seen.{moved_by, seen_single}
use Rattle.cob_back_losses.proofs.singles.singles_by.Goals as goal

pub loop-single-preserved : goal.loop-single-preserved
loop-single-preserved c =
    let moved = moved_by (layout_records c.args.layouts.now) in
    mapped_more moved (map moved (singles_of c.args.statements.now)) c.loop-single.single-iterator c.next.new.self (plain_single c.in-Some.single) (seen_single c.single_by.result)
    (map seen_single c.loop-single.singles.items) (map seen_single c.push.new.self.items) c.in-Some.ensures.steps c.single_by.ensures
    (ap (map seen_single) c.in_ok-push.ensures.items ∙ map-append seen_single c.loop-single.singles.items (c.single_by.result ∷ [])) c.loop-single.invariant

pub returns : goal.returns
returns c =
    let moved = moved_by (layout_records c.args.layouts.now) in
    mapped_done moved (map moved (singles_of c.args.statements.now)) c.loop-single.single-iterator (map seen_single c.loop-single.singles.items) c.in-None.ensures.steps.0 c.loop-single.invariant
