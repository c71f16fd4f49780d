use Rattle.indexmap.specs.IndexMap.{get_by}
use Rattle.cob_report_html.specs.Ends.{same}
use Rattle.cob_report_html.specs.declared.ends.JoinedEnds.{JoinedEnds}
use Rattle.cob_report_html.proofs.GroupLemmas.{SoFar}
use Rattle.cob_report_html.proofs.ends.counts_of.Given as goal

abbrev pub invariant-loop-single : goal.invariant-loop-single
invariant-loop-single l = SoFar l.singles l.single-index l.counts.items (λ (q : JoinedEnds). get_by (same q) l.left)
