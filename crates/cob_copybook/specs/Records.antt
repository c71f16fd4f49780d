-- Which tree the entries of a record stand for, and which rule they break.
use Rattle.std.specs.Prelude.{◌≡◌, ◌⊎◌, ℕ, List, Option, None}
use Rattle.cob_copybook_entry.specs.Described.{PlainEntry}
use Rattle.cob_copybook_entry.specs.declared.fault.BookRule.{BookRule}
use Rattle.cob_copybook_entry.specs.declared.fault.BookRule.TheVariants as rule
use Rattle.cob_copybook_tree.specs.Forests.{Forest}
use Rattle.cob_copybook_tree.specs.Branches.{AreLevels, StandsFor}
use Rattle.cob_copybook_tree.specs.Nodes.{Resolved}
use Rattle.cob_copybook_tree.specs.Resolving.{resolved}
use Rattle.cob_copybook_rules.specs.Rules.{AgreeAll, BreaksClauseRule as BreaksClauses}
use Rattle.cob_copybook_names.specs.Counts.{AreCountsOfTables}
use Rattle.cob_copybook_rules.specs.LengthRules.{KeepsLengthRules, BreaksLengthRule as BreaksLengths}

-- The tree as it is written has this one, with what its entries inherit: each table that varies has its count, and the rules on lengths are
-- kept.
pub record IsStored (written : Forest PlainEntry) (t : Forest Resolved) : Type 0 where
  pub counts : List (Option ℕ)
  pub counted : AreCountsOfTables written counts
  pub tree : t ≡ resolved counts 0 None None written
  pub fit : KeepsLengthRules t

-- The entries are a record description with this tree: by their levels they stand for a tree, their clauses agree with each other, and with
-- its counts and lengths the tree is a record.
pub record IsRecordOf (ds : List PlainEntry) (t : Forest Resolved) : Type 0 where
  pub written : Forest PlainEntry
  pub stands : StandsFor ds written
  pub agree : AgreeAll written
  pub stored : IsStored written t

-- the levels make no tree, or the clauses of the tree break the rule
abbrev pub BreaksTree : BookRule → List PlainEntry → Type 0
BreaksTree rule.Level ds = (AreLevels ds → ⊥) ⊎ ((t : Forest PlainEntry) × StandsFor ds t × BreaksClauses rule.Level t)
BreaksTree r ds = (t : Forest PlainEntry) × StandsFor ds t × BreaksClauses r t

-- a refusal of entries names a rule that is broken, or memory
abbrev pub IsTreeRefusal : BookRule → List PlainEntry → Type 0
IsTreeRefusal rule.Memory ds = Unit {0}
IsTreeRefusal r ds = BreaksTree r ds

-- a table's count is none, or the tree with its counts breaks the rule on lengths
abbrev pub BreaksStorage : BookRule → Forest PlainEntry → Type 0
BreaksStorage rule.Count t = (counts : List (Option ℕ)) → AreCountsOfTables t counts → ⊥
BreaksStorage r t = (counts : List (Option ℕ)) × AreCountsOfTables t counts × BreaksLengths r (resolved counts 0 None None t)

-- a refusal of a tree whose clauses agree names a rule that is broken, or memory
abbrev pub IsStorageRefusal : BookRule → Forest PlainEntry → Type 0
IsStorageRefusal rule.Memory t = Unit {0}
IsStorageRefusal r t = BreaksStorage r t

-- the entries break the rule: on levels and clauses, or, where these make a tree, on counts and lengths
abbrev pub BreaksRecord : BookRule → List PlainEntry → Type 0
BreaksRecord r ds = BreaksTree r ds ⊎ ((t : Forest PlainEntry) × StandsFor ds t × BreaksStorage r t)
