-- The entries of a record are numbered in order from 0.
use Rattle.std.proofs.Common.{◌≡◌, sym, subst, ℕ, ◌+◌, List, refl, arith, Option}
use Rattle.cob_copybook_entry.specs.declared.kinds.Usage.{Usage}
use Rattle.cob_copybook_entry.specs.declared.kinds.Sign.{Sign}
use Rattle.cob_copybook_entry.specs.Described.{PlainEntry}
use Rattle.cob_copybook_tree.specs.Forests.{Forest, NoEntries, AnEntry, entries_in}
use Rattle.cob_copybook_tree.specs.Resolving.{inherited, resolved}
use Rattle.cob_layout_places.specs.Cover.{AreNumbered}

-- what entries inherit adds none
pub same_entries : (counts : List (Option ℕ)) (n : ℕ) (usage : Option Usage) (sign : Option Sign) (f : Forest PlainEntry) → entries_in (resolved counts n usage sign f) ≡ entries_in f
same_entries counts n usage sign NoEntries = refl
same_entries counts n usage sign (AnEntry e children more) =
    let below = same_entries counts (n + 1) (inherited usage e.usage) (inherited sign e.sign) children in
    let beside = same_entries counts (n + 1 + entries_in children) usage sign more in
    omega (arith, below, beside)

pub numbered : (counts : List (Option ℕ)) (n : ℕ) (usage : Option Usage) (sign : Option Sign) (f : Forest PlainEntry) → AreNumbered n (resolved counts n usage sign f)
numbered counts n usage sign NoEntries = tt
numbered counts n usage sign (AnEntry e children more) =
    let same = same_entries counts (n + 1) (inherited usage e.usage) (inherited sign e.sign) children in
    let beside = numbered counts (n + 1 + entries_in children) usage sign more in (
      refl,
      numbered counts (n + 1) (inherited usage e.usage) (inherited sign e.sign) children,
      subst (λ (k : ℕ). AreNumbered (n + 1 + k) (resolved counts (n + 1 + entries_in children) usage sign more)) (sym same) beside,
    )
