-- A tree whose clauses agree breaks no rule on them.
use Rattle.cob_copybook_entry.specs.Described.{PlainEntry}
use Rattle.cob_copybook_entry.specs.declared.fault.BookRule.{BookRule}
use Rattle.cob_copybook_entry.specs.declared.fault.BookRule.TheVariants as rule
use Rattle.cob_copybook_tree.specs.Forests.{Forest}
use Rattle.cob_copybook_rules.specs.Rules.{AgreeAll, BreaksClauseRule}

pub not_broken : (r : BookRule) (t : Forest PlainEntry) → BreaksClauseRule r t → AgreeAll t → ⊥
not_broken (rule.Source f) t breaks agree = breaks
not_broken rule.NoEntry t breaks agree = breaks
not_broken rule.Grammar t breaks agree = breaks
not_broken rule.Level t breaks agree = breaks agree.filled
not_broken (rule.Picture f) t breaks agree = breaks
not_broken rule.Usage t breaks agree = breaks agree.usages
not_broken rule.Sign t breaks agree = breaks agree.signs
not_broken rule.Redefinition t breaks agree = breaks
not_broken rule.Table t breaks agree = breaks agree.tables
not_broken rule.Count t breaks agree = breaks
not_broken rule.Value t breaks agree = breaks
not_broken rule.Placement t breaks agree = breaks agree.placements
not_broken (rule.LeftOut word) t breaks agree = breaks
not_broken rule.Name t breaks agree = breaks
not_broken rule.TooLong t breaks agree = breaks
not_broken rule.TooMany t breaks agree = breaks
not_broken rule.Memory t breaks agree = breaks
