use Rattle.std.proofs.Common.{[], false}
use Rattle.cob_copybook_tree.specs.Forests.{flat}
use Rattle.cob_copybook_names.specs.Entries.{bearers}
use Rattle.cob_copybook_names.proofs.OneList.{one_list}
use Rattle.cob_copybook_names.proofs.count.one_list_of_counts.Goals as goal

pub returns : goal.returns
returns c = λ t a b x y. one_list (bearers [] false 0 t) 0 (flat t) a b x y
