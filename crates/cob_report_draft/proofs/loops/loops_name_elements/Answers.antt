use Rattle.cob_report_draft.proofs.LoopLemmas.{names_literal}
use Rattle.cob_report_draft.proofs.loops.loops_name_elements.Goals as goal

pub returns : goal.returns
returns c = names_literal
