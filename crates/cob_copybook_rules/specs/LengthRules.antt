-- Which rules on lengths a tree keeps, and which it breaks.
use Rattle.std.specs.Prelude.{◌≤◌, [], false}
use Rattle.cob_copybook_entry.specs.declared.fault.BookRule.{BookRule}
use Rattle.cob_copybook_entry.specs.declared.fault.BookRule.TheVariants as rule
use Rattle.cob_copybook_tree.specs.Forests.{Forest}
use Rattle.cob_copybook_tree.specs.Nodes.{Resolved}
use Rattle.cob_copybook_tree.specs.Lengths.{greatest_number, sum_of}
use Rattle.cob_limits.specs.Limits.{longest_record}
use Rattle.cob_copybook_rules.specs.Areas.{AreAreas}
use Rattle.cob_copybook_rules.specs.Values.{AreValues}

-- the record isn't too long, its redefinitions stay in their areas, and its values fit
pub record KeepsLengthRules (t : Forest Resolved) : Type 0 where
  pub short : sum_of greatest_number t ≤ longest_record
  pub areas : AreAreas [] t
  pub values : AreValues false false t

-- the tree breaks the rule
abbrev pub BreaksLengthRule : BookRule → Forest Resolved → Type 0
BreaksLengthRule rule.TooLong t = sum_of greatest_number t ≤ longest_record → ⊥
BreaksLengthRule rule.Redefinition t = AreAreas [] t → ⊥
BreaksLengthRule rule.Value t = AreValues false false t → ⊥
BreaksLengthRule r t = ⊥

-- a record that is fit breaks no rule on lengths
abbrev pub FitBreaksNone : Type 0
FitBreaksNone = (r : BookRule) (t : Forest Resolved) → BreaksLengthRule r t → KeepsLengthRules t → ⊥
