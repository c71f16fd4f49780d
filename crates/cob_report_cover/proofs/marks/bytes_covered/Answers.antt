use Rattle.cob_report_cover.proofs.MeetLemmas.{are_marks}
use Rattle.cob_report_cover.proofs.marks.bytes_covered.Goals as goal

pub returns-clause-marks : goal.returns-clause-marks
returns-clause-marks c =
    are_marks c.args.moves.now.layouts.output.now c.in_ok-places.places.items c.deref.result.now _ c.in_ok-marks.marks.items c.deref.ensures.value c.in_ok-marks.ensures.marks c.in_ok-places.ensures
