-- Which rule a part of an entry breaks.
use Rattle.std.specs.Prelude.{◌≡◌, ◌⊎◌, Option, Some, None}
use Rattle.cob_copybook_clauses.specs.Written.{WrittenValue, WrittenOccurs}
use Rattle.cob_copybook_entry.specs.declared.fault.BookRule.{BookRule}
use Rattle.cob_copybook_entry.specs.declared.fault.BookRule.TheVariants as rule
use Rattle.cob_copybook_entries.specs.Books.{BreaksConstant, BreaksValue, BreaksNumber, BreaksTable, IsNoName, count_name}

-- the constant breaks the grammar of literals, or the rule on values
abbrev pub IsConstantFault : BookRule → WrittenValue → Type 0
IsConstantFault r w = ((r ≡ rule.Grammar) × BreaksConstant (Some w)) ⊎ ((r ≡ rule.Value) × BreaksValue (Some w))

-- the numbers of the table break the grammar of numbers, or the rule on tables
abbrev pub IsNumbersFault : BookRule → WrittenOccurs → Type 0
IsNumbersFault r t = ((r ≡ rule.Grammar) × BreaksNumber t) ⊎ ((r ≡ rule.Table) × BreaksTable (Some t))

-- memory was refused, or the table breaks the grammar of numbers, the rule on tables, or the one on names
abbrev pub IsTableFault : BookRule → WrittenOccurs → Type 0
IsTableFault r t =
    (r ≡ rule.Memory)
    ⊎ (((r ≡ rule.Grammar) × BreaksNumber t) ⊎ (((r ≡ rule.Table) × BreaksTable (Some t)) ⊎ ((r ≡ rule.Name) × IsNoName (count_name (Some t)))))

-- what is written is there, and is this
abbrev pub OfOption : {A : Type 0} → (A → Type 0) → Option A → Type 0
OfOption P None = ⊥
OfOption P (Some a) = P a
