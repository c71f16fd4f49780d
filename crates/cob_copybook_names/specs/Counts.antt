-- DEPENDING ON: the counts of the tables of a record.
use Rattle.std.specs.Prelude.{◌≡◌, ℕ, ◌+◌, ◌<◌, pos, true, false, List, [], ◌∷◌, map, Option, Some, None}
use Rattle.cob_picture.specs.Positions.{PlainPicture}
use Rattle.cob_picture.specs.Counts.{scale}
use Rattle.cob_copybook_entry.specs.Described.{PlainEntry, PlainOccurs, Fixed, Varying}
use Rattle.cob_copybook_entry.specs.declared.entry.Qualified.{Qualified}
use Rattle.cob_copybook_entry.specs.declared.fault.BookRule.{BookRule}
use Rattle.cob_copybook_entry.specs.declared.fault.BookRule.TheVariants as rule
use Rattle.cob_copybook_tree.specs.Forests.{Forest, flat}
use Rattle.cob_copybook_tree.specs.Resolving.{is_numeric}
use Rattle.cob_copybook_names.specs.Naming.{Bearer, named}
use Rattle.cob_copybook_names.specs.declared.bearer.Bearer.{Bearer as Listed}
use Rattle.cob_copybook_names.specs.declared.listing.NumberedEntry.{NumberedEntry as ListedEntry}
use Rattle.cob_copybook_names.specs.Entries.{NumberedEntry, bearer_of, bearers}

-- a number without a fraction, and without P, which would move the point
pub record IsWholeNumber (p : PlainPicture) : Type 0 where
  pub number : is_numeric p.category ≡ true
  pub whole : scale p.positions ≡ pos 0

-- what may be a count: a whole number that is no table and in none, and isn't edited by BLANK WHEN ZERO
pub record MayCount (e : NumberedEntry) : Type 0 where
  pub picture : PlainPicture
  pub has : e.picture ≡ Some picture
  pub whole : IsWholeNumber picture
  pub single : e.in_table ≡ false
  pub plain : e.blank ≡ false

-- the count of table n: the one entry of the record that the name names may be one, and stands before the table
pub record IsCountOfTable (all : List (Bearer NumberedEntry)) (n : ℕ) (name : List ℕ) (qualifiers : List (List ℕ)) (count : ℕ) : Type 0 where
  pub bearer : Bearer NumberedEntry
  pub only : named name qualifiers all ≡ bearer ∷ []
  pub may : MayCount bearer.entry
  pub number : bearer.entry.number ≡ count
  pub before : count < n

-- a table that varies has its count, and another entry has none
abbrev pub IsCountOf : List (Bearer NumberedEntry) → ℕ → Option PlainOccurs → Option ℕ → Type 0
IsCountOf all n (Some (Varying least most name qualifiers)) (Some count) = IsCountOfTable all n name qualifiers count
IsCountOf all n (Some (Varying least most name qualifiers)) None = ⊥
IsCountOf all n (Some (Fixed times)) count = count ≡ None
IsCountOf all n None count = count ≡ None

-- so it is among those that are listed, by what names it
abbrev pub CountsTable : List (Listed ListedEntry) → ℕ → Qualified → ℕ → Type 0
CountsTable listed n q count = IsCountOfTable (map bearer_of listed) n q.name q.qualifiers.items count

-- the counts of entries from number n on
abbrev pub AreCounts : List (Bearer NumberedEntry) → ℕ → List PlainEntry → List (Option ℕ) → Type 0
AreCounts all n [] counts = counts ≡ []
AreCounts all n (e ∷ es) counts = (count : Option ℕ) × (more : List (Option ℕ)) × (counts ≡ count ∷ more) × IsCountOf all n e.occurs count × AreCounts all (n + 1) es more

-- the counts of all entries of a record
abbrev pub AreCountsOfTables : Forest PlainEntry → List (Option ℕ) → Type 0
AreCountsOfTables t counts = AreCounts (bearers [] false 0 t) 0 (flat t) counts

-- why the counts of entries from number 0 on aren't told: memory was refused, or there are none
abbrev pub IsRefusedAmong : List (Bearer NumberedEntry) → BookRule → List PlainEntry → Type 0
IsRefusedAmong all rule.Memory es = Unit {0}
IsRefusedAmong all rule.Count es = (counts : List (Option ℕ)) → AreCounts all 0 es counts → ⊥
IsRefusedAmong all r es = ⊥

-- why the counts of a record aren't told: memory was refused, or it has none
abbrev pub IsRefused : BookRule → Forest PlainEntry → Type 0
IsRefused r t = IsRefusedAmong (bearers [] false 0 t) r (flat t)
