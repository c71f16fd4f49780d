use Rattle.cob_copybook_rules.proofs.Branches.{filled_by, filled_only}
use Rattle.cob_copybook_rules.proofs.filled.is_filled.Goals as goal

pub returns-clause-yes : goal.returns-clause-yes
returns-clause-yes c = filled_by c.args.entry.now.picture c.args.children.now _ _ c.is_some.ensures c.is_empty.ensures

pub returns-clause-must : goal.returns-clause-must
returns-clause-must c = filled_only c.args.entry.now.picture c.args.children.now _ _ c.is_some.ensures c.is_empty.ensures
