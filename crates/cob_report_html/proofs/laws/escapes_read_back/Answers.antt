use Rattle.cob_report_html.proofs.EscapeLemmas.{reads_back}
use Rattle.cob_report_html.proofs.laws.escapes_read_back.Goals as goal

pub returns : goal.returns
returns c = reads_back
