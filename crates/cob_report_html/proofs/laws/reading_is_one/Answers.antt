use Rattle.cob_report_html.proofs.EscapeLemmas.{one_reading}
use Rattle.cob_report_html.proofs.laws.reading_is_one.Goals as goal

pub returns : goal.returns
returns c = one_reading
