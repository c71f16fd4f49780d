-- Trees of entries: one tree for each list, and what a broken rule says of it.
use Rattle.std.proofs.Common.{subst, List}
use Rattle.cob_copybook_entry.specs.Described.{PlainEntry}
use Rattle.cob_copybook_entry.specs.declared.fault.BookRule.{BookRule}
use Rattle.cob_copybook_tree.specs.Forests.{Forest}
use Rattle.cob_copybook_tree.specs.Branches.{StandsFor}
use Rattle.cob_copybook_tree.specs.Laws.{OneTree}
use Rattle.cob_copybook_rules.specs.Rules.{AgreeAll, BreaksClauseRule, AgreeingBreaksNoRule}

-- a tree that breaks a rule on clauses isn't one of entries whose tree agrees
pub disagrees : (one : OneTree) (none : AgreeingBreaksNoRule) (ds : List PlainEntry) (t u : Forest PlainEntry) (r : BookRule) → StandsFor ds t → StandsFor ds u → BreaksClauseRule r t → AgreeAll u → ⊥
disagrees one none ds t u r is us breaks agree = none r t breaks (subst AgreeAll (one ds u t us is) agree)
