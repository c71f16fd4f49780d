-- Qualifiers that fit where names are kept.
use Rattle.std.specs.Prelude.{ℕ, ◌≤◌, List, length, Option, Some, None}
use Rattle.std.specs.List.{AllByRecursion}
use Rattle.cob_limits.specs.Limits.{longest_name}
use Rattle.cob_copybook_clauses.specs.Written.{WrittenName, WrittenOccurs}

-- none of the texts is longer than a name
abbrev pub AreShort : List (List ℕ) → Type 0
AreShort texts = AllByRecursion (λ text. length text ≤ longest_name) texts

-- none of a count's qualifiers is
abbrev pub HasShortQualifiers : Option WrittenName → Type 0
HasShortQualifiers None = Unit {0}
HasShortQualifiers (Some count) = AreShort count.qualifiers

-- none of the qualifiers of a table's count is
abbrev pub HasShortCount : Option WrittenOccurs → Type 0
HasShortCount None = Unit {0}
HasShortCount (Some t) = HasShortQualifiers t.count
