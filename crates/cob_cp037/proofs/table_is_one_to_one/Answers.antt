use Rattle.cob_cp037.proofs.TableLemmas.{one_to_one}
use Rattle.cob_cp037.proofs.table_is_one_to_one.Goals as goal

pub returns : goal.returns
returns c = one_to_one
