-- Groups hold entries, and tables are nested no deeper than they may be.
use Rattle.std.proofs.Common.{◌≡◌, subst, ℕ, ◌+◌, ◌≤◌, List, refl, Option, Some, None, Bool}
use Rattle.std.specs.Prelude.{unwrap_or}
use Rattle.cob_picture.specs.Positions.{PlainPicture}
use Rattle.cob_copybook_entry.specs.declared.kinds.Usage.{Usage}
use Rattle.cob_copybook_entry.specs.declared.kinds.Usage.TheVariants.{Display}
use Rattle.cob_copybook_entry.specs.declared.kinds.Sign.{Sign}
use Rattle.cob_copybook_entry.specs.Described as described
use Rattle.cob_copybook_entry.specs.Described.{PlainEntry}
use Rattle.cob_copybook_tree.specs.Forests.{Forest, NoEntries, AnEntry, entries_in}
use Rattle.cob_copybook_tree.specs.Resolving.{count_at, inherited, times_of, kind_by_picture, resolved}
use Rattle.cob_copybook_rules.specs.Filled as rules
use Rattle.cob_copybook_rules.specs.Tables as tables
use Rattle.cob_limits.specs.Limits.{most_dimensions}
use Rattle.cob_layout.specs.Sound.{HoldsSome, HoldSome, own_dimension, AreNested}

one_filled : (picture : Option PlainPicture) (own : Usage) (place : Option Sign) (justified blank : Bool) (counts : List (Option ℕ)) (n : ℕ) (usage : Option Usage) (sign : Option Sign) (children : Forest PlainEntry)
    → rules.IsFilled picture children → HoldsSome (kind_by_picture picture own place justified blank) (resolved counts n usage sign children)
one_filled None own place justified blank counts n usage sign NoEntries h = absurd h
one_filled None own place justified blank counts n usage sign (AnEntry e children more) h = tt
one_filled (Some p) own place justified blank counts n usage sign children h = tt

-- where each entry is an item or a group, each group has an entry
pub filled : (counts : List (Option ℕ)) (n : ℕ) (usage : Option Usage) (sign : Option Sign) (f : Forest PlainEntry) → rules.AreFilled f → HoldSome (resolved counts n usage sign f)
filled counts n usage sign NoEntries h = tt
filled counts n usage sign (AnEntry e children more) h =
    let u = inherited usage e.usage in
    let v = inherited sign e.sign in
    let here = one_filled e.picture (unwrap_or u Display) v e.justified e.blank counts (n + 1) u v children h.0 in
    (here, filled counts (n + 1) u v children h.1, filled counts (n + 1 + entries_in children) usage sign more h.2)

same_dimension : (o : Option described.PlainOccurs) (count : Option ℕ) → tables.dimension o ≡ own_dimension (times_of o count)
same_dimension None count = refl
same_dimension (Some (described.Fixed n)) count = refl
same_dimension (Some (described.Varying least most name qualifiers)) (Some count) = refl
same_dimension (Some (described.Varying least most name qualifiers)) None = refl

-- tables have the dimensions that they are written with
pub nested : (counts : List (Option ℕ)) (n m : ℕ) (usage : Option Usage) (sign : Option Sign) (f : Forest PlainEntry) → tables.AreTables m f → AreNested m (resolved counts n usage sign f)
nested counts n m usage sign NoEntries h = tt
nested counts n m usage sign (AnEntry e children more) h =
    let u = inherited usage e.usage in
    let v = inherited sign e.sign in
    let same = same_dimension e.occurs (count_at counts n) in
    let here = subst (λ (d : ℕ). m + d ≤ most_dimensions) same h.2 in
    let below = nested counts (n + 1) (m + tables.dimension e.occurs) u v children h.3 in
    let beside = nested counts (n + 1 + entries_in children) m usage sign more h.4 in
    (here, subst (λ (d : ℕ). AreNested (m + d) (resolved counts (n + 1) u v children)) same below, beside)
