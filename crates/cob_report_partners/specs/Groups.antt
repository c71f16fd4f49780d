-- The names of the groups of a record, and those that two records share.
use Rattle.std.specs.Prelude.{◌≡◌, ℕ, ◌-◌, Bool, true, false, nat_eq, ◌&&◌, is_some, List, [], ◌∷◌, length, map, take, filter}
use Rattle.std.specs.List.{list_any}
use Rattle.std.specs.Borrow.{Bor}
use Rattle.std.specs.Cmp.Lexicographic.{pointwise}
use Rattle.indexmap.specs.IndexMap.{IndexMap, get_by}
use Rattle.cob_copybook_names.specs.Naming.{Bearer, has_name}
use Rattle.cob_copybook_tree.specs.Nodes.{is_group_kind}
use Rattle.cob_copybook_names.specs.declared.bearer.Bearer.{Bearer as Listed}
use Rattle.cob_report_partners.specs.declared.entries.DraftEntry.{DraftEntry as ListedEntry}
use Rattle.cob_report_partners.specs.Entries.{DraftEntry, listed_bearer}
use Rattle.cob_report_partners.specs.declared.groups.GroupNames.{GroupNames}

-- the names of the groups above an entry but for its record's, which comes last
abbrev pub below_record : List (List ℕ) → List (List ℕ)
below_record above = take (length above - 1) above

-- it stands below a record
abbrev pub is_below : List (List ℕ) → Bool
is_below [] = false
is_below (a ∷ more) = true

-- it is a group below a record, and has the name
abbrev pub is_group_named : List ℕ → Bearer DraftEntry → Bool
is_group_named name b = is_group_kind b.entry.kind && (is_below b.above && has_name name b.name)

-- some group below a record has the name
abbrev pub names_group : List (Bearer DraftEntry) → List ℕ → Bool
names_group bs name = list_any (is_group_named name) bs

-- those of these names that groups of a record have
abbrev pub names_there : List (Bearer DraftEntry) → List (List ℕ) → List (List ℕ)
names_there bs names = filter (names_group bs) names

-- the name is among those that are noted
abbrev pub is_noted : {A S : Type 0} → IndexMap (Bor (List ℕ)) A S → List ℕ → Bool
is_noted noted name = is_some (get_by (λ k. pointwise nat_eq name k.now) noted)

-- some group has the name
abbrev pub has_group : GroupNames → List ℕ → Bool
has_group groups name = is_noted groups.names name

-- the names that are noted are those of the groups below a record
abbrev pub AreGroups : List (Bearer DraftEntry) → GroupNames → Type 0
AreGroups bs groups = (name : List ℕ) → has_group groups name ≡ names_group bs name

-- those of the names of groups above an entry, its record left out, that groups of the other record have
abbrev pub shared_above : List (Bearer DraftEntry) → Bearer DraftEntry → List (List ℕ)
shared_above others b = names_there others (below_record b.above)

-- those of the names of groups above each of some entries, its record left out, that are noted
abbrev pub noted_above : GroupNames → List (Bearer DraftEntry) → List (List (List ℕ))
noted_above groups bs = map (λ b. filter (has_group groups) (below_record b.above)) bs

-- of a listed entry those of them that groups of the other record have, whose entries these are
abbrev pub listed_shared : List (Listed ListedEntry) → Listed ListedEntry → List (List ℕ)
listed_shared others b = shared_above (map listed_bearer others) (listed_bearer b)
