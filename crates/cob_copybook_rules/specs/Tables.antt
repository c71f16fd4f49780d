-- OCCURS: tables, and how deep they are nested.
use Rattle.std.specs.Prelude.{◌≡◌, ℕ, ◌+◌, ◌<◌, ◌≤◌, Option, Some, None}
use Rattle.cob_copybook_entry.specs.Described.{PlainEntry, PlainOccurs, Fixed, Varying}
use Rattle.cob_copybook_tree.specs.Forests.{Forest, NoEntries, AnEntry}
use Rattle.cob_limits.specs.Limits.{most_dimensions}

-- one for a table
abbrev pub dimension : Option PlainOccurs → ℕ
dimension None = 0
dimension (Some t) = 1

-- it occurs at least once, or its least number is below its greatest
abbrev pub HasValidNumbers : Option PlainOccurs → Type 0
HasValidNumbers None = Unit {0}
HasValidNumbers (Some (Fixed n)) = 0 < n
HasValidNumbers (Some (Varying least most name qualifiers)) = least < most

-- a record is no table
abbrev pub IsNoRecordTable : PlainEntry → Type 0
IsNoRecordTable e = e.level ≡ 1 → e.occurs ≡ None

-- beneath n tables, at most 7 dimensions stand anywhere, and each table is one
abbrev pub AreTables : ℕ → Forest PlainEntry → Type 0
AreTables n NoEntries = Unit {0}
AreTables n (AnEntry e children more) =
    HasValidNumbers e.occurs × IsNoRecordTable e × (n + dimension e.occurs ≤ most_dimensions) × AreTables (n + dimension e.occurs) children × AreTables n more
