-- Which rules on clauses a tree keeps, and which it breaks.
use Rattle.std.specs.Prelude.{None}
use Rattle.cob_copybook_entry.specs.Described.{PlainEntry}
use Rattle.cob_copybook_entry.specs.declared.fault.BookRule.{BookRule}
use Rattle.cob_copybook_entry.specs.declared.fault.BookRule.TheVariants as rule
use Rattle.cob_copybook_tree.specs.Forests.{Forest}
use Rattle.cob_copybook_rules.specs.Filled.{AreFilled}
use Rattle.cob_copybook_rules.specs.Usages.{AreUsages}
use Rattle.cob_copybook_rules.specs.Signs.{AreSigned}
use Rattle.cob_copybook_rules.specs.Tables.{AreTables}
use Rattle.cob_copybook_rules.specs.Placements.{ArePlaced}

-- the clauses of the entries agree with each other
pub record AgreeAll (t : Forest PlainEntry) : Type 0 where
  pub filled : AreFilled t
  pub usages : AreUsages None t
  pub signs : AreSigned None t
  pub tables : AreTables 0 t
  pub placements : ArePlaced None t

-- the tree breaks the rule
abbrev pub BreaksClauseRule : BookRule → Forest PlainEntry → Type 0
BreaksClauseRule rule.Level t = AreFilled t → ⊥
BreaksClauseRule rule.Usage t = AreUsages None t → ⊥
BreaksClauseRule rule.Sign t = AreSigned None t → ⊥
BreaksClauseRule rule.Table t = AreTables 0 t → ⊥
BreaksClauseRule rule.Placement t = ArePlaced None t → ⊥
BreaksClauseRule r t = ⊥

-- a tree whose clauses agree breaks no rule on them
abbrev pub AgreeingBreaksNoRule : Type 0
AgreeingBreaksNoRule = (r : BookRule) (t : Forest PlainEntry) → BreaksClauseRule r t → AgreeAll t → ⊥
