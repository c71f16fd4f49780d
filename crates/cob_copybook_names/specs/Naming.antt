-- Which entries a name with its qualifiers names, in one record or in several.
use Rattle.std.specs.Prelude.{◌≡◌, ◌<◌, ◌⊎◌, ℕ, Bool, true, false, ◌&&◌, bytes_eq, if◌then◌else◌, List, [], ◌∷◌, length, map, filter, Option, Some, None}
use Rattle.cob_copybook_names.specs.declared.fault.NameFault.{NameFault}
use Rattle.cob_copybook_names.specs.declared.fault.NameFault.TheVariants.{Unknown, Ambiguous}

-- an entry that may be named: its name (FILLER has none), the names of the groups above it, the nearest first, and what else is known of it
pub record Bearer (A : Type 0) : Type 0 where
  pub name : Option (List ℕ)
  pub above : List (List ℕ)
  pub entry : A

-- the names of groups, with that of a further group within them, if it has one
abbrev pub with_name : Option (List ℕ) → List (List ℕ) → List (List ℕ)
with_name None above = above
with_name (Some name) above = name ∷ above

-- qualifiers name groups above an entry in order, the nearest first, with gaps
abbrev pub Qualify : List (List ℕ) → List (List ℕ) → Type 0
Qualify [] above = Unit {0}
Qualify (q ∷ qs) [] = ⊥
Qualify (q ∷ qs) (a ∷ above) = ((q ≡ a) × Qualify qs above) ⊎ Qualify (q ∷ qs) above

-- whether they do (the law `QualifyingIsOne` says that it is the same): each names the nearest group that it may
abbrev pub qualifies : List (List ℕ) → List (List ℕ) → Bool
qualifies [] above = true
qualifies (q ∷ qs) [] = false
qualifies (q ∷ qs) (a ∷ above) = if bytes_eq q a then qualifies qs above else qualifies (q ∷ qs) above

-- an entry bears the name; FILLER bears none
abbrev pub has_name : List ℕ → Option (List ℕ) → Bool
has_name name None = false
has_name name (Some own) = bytes_eq own name

-- a name with its qualifiers names an entry that bears the name where the qualifiers name groups above it
abbrev pub is_named : {A : Type 0} → List ℕ → List (List ℕ) → Bearer A → Bool
is_named name qualifiers b = has_name name b.name && qualifies qualifiers b.above

-- the entries that a name with its qualifiers names: it refers where there is exactly one
abbrev pub named : {A : Type 0} → List ℕ → List (List ℕ) → List (Bearer A) → List (Bearer A)
named name qualifiers all = filter (λ b. is_named name qualifiers b) all

-- why the entries that are named aren't exactly one
abbrev pub IsNameFault : {A : Type 0} → NameFault → List (Bearer A) → Type 0
IsNameFault Unknown bs = bs ≡ []
IsNameFault Ambiguous bs = 1 < length bs

-- the names that entries bear
abbrev pub own_names : {A : Type 0} → List (Bearer A) → List (Option (List ℕ))
own_names bs = map (λ b. b.name) bs
