-- A record description has one entry that holds all others.
use Rattle.std.proofs.Common.{ℕ, List, [], ◌∷◌, ◌++◌, sym, subst, arith}
use Rattle.std.specs.Prelude.{Option}
use Rattle.std.specs.List.{AllByRecursion}
use Rattle.cob_copybook_entry.specs.declared.kinds.Usage.{Usage}
use Rattle.cob_copybook_entry.specs.declared.kinds.Sign.{Sign}
use Rattle.cob_copybook_entry.specs.Described.{PlainEntry}
use Rattle.cob_copybook_tree.specs.Branches.{AreLevels, IsBelow, StandsFor}
use Rattle.cob_copybook_tree.specs.Forests.{Forest, NoEntries, AnEntry, flat}
use Rattle.cob_copybook_tree.specs.Resolving.{resolved}

-- just one entry stands at the top
abbrev pub IsOne : {A : Type 0} → Forest A → Type 0
IsOne NoEntries = ⊥
IsOne (AnEntry e children NoEntries) = Unit {0}
IsOne (AnEntry e children (AnEntry next beneath more)) = ⊥

all_behind : (xs ys : List PlainEntry) → AllByRecursion IsBelow (xs ++ ys) → AllByRecursion IsBelow ys
all_behind [] ys h = h
all_behind (x ∷ xs) ys h = all_behind xs ys h.1

-- a second one would have level 01
pub one_entry : (ds : List PlainEntry) (f : Forest PlainEntry) → StandsFor ds f → IsOne f
one_entry ds NoEntries s = let none : AreLevels [] = subst AreLevels (sym s.entries) s.levels in none
one_entry ds (AnEntry e children NoEntries) s = tt
one_entry ds (AnEntry e children (AnEntry next beneath more)) s =
    let levels : AreLevels (flat (AnEntry e children (AnEntry next beneath more))) = subst AreLevels (sym s.entries) s.levels in
    let below = all_behind (flat children) (flat (AnEntry next beneath more)) levels.1 in
    absurd (omega (arith, levels.0, below.0.0, s.tree.2))

-- and so it is with what the entries inherit
pub one_resolved : (counts : List (Option ℕ)) (n : ℕ) (usage : Option Usage) (sign : Option Sign) (f : Forest PlainEntry) → IsOne f → IsOne (resolved counts n usage sign f)
one_resolved counts n usage sign NoEntries h = h
one_resolved counts n usage sign (AnEntry e children NoEntries) h = tt
one_resolved counts n usage sign (AnEntry e children (AnEntry next beneath more)) h = h
