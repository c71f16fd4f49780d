use Rattle.cob_report_draft.proofs.LoopLemmas.{names_counted}
use Rattle.cob_report_draft.proofs.loops.counted_loops_name_elements.Goals as goal

pub returns : goal.returns
returns c = names_counted
