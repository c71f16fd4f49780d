use Rattle.cob_report_compare.proofs.OrderLemmas.{in_order}
use Rattle.cob_report_compare.proofs.laws.without_key_in_order.Goals as goal

pub returns : goal.returns
returns c = in_order
