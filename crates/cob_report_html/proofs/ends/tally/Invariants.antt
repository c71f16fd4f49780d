use Rattle.std.proofs.Common.{◌≡◌, take}
use Rattle.std.specs.List.{count_by}
use Rattle.std.specs.Option.{unwrap_or}
use Rattle.indexmap.specs.IndexMap.{get_by}
use Rattle.cob_report_html.specs.Ends.{same}
use Rattle.cob_report_html.specs.declared.ends.JoinedEnds.{JoinedEnds}
use Rattle.cob_report_html.proofs.ends.tally.Given as goal

abbrev pub invariant-loop-single : goal.invariant-loop-single
invariant-loop-single l = (q : JoinedEnds) → unwrap_or (get_by (same q) l.counts) 0 ≡ count_by (same q) (take l.single-index l.singles)
