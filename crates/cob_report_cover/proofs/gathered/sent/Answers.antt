use Rattle.cob_back_moves.specs.Tested.{layout_records}
use Rattle.cob_report_cover.proofs.GatherLemmas.{gathers_as}
use Rattle.cob_report_cover.proofs.StatementLemmas.{all_senders}
use Rattle.cob_report_cover.proofs.gathered.sent.Goals as goal

pub returns : goal.returns
returns c =
    let l = c.args.moves.now.layouts in
    gathers_as l.input.now c.in_ok-places.places.items _ _ (all_senders l.reading (layout_records l) c.args.moves.now.statements.now) c.in_ok-places.ensures
