-- Resolved trees: each entry occurs at least once.
use Rattle.std.proofs.Common.{◌≡◌, sym, subst, ap, ◌∙◌, ℕ, ◌+◌, ◌<◌, List, arith}
use Rattle.std.specs.Prelude.{Option, Some, None, Bool, unwrap_or}
use Rattle.cob_copybook_entry.specs.declared.kinds.Usage.{Usage}
use Rattle.cob_copybook_entry.specs.declared.kinds.Sign.{Sign}
use Rattle.cob_copybook_entry.specs.Described.{PlainEntry, PlainOccurs, Fixed, Varying}
use Rattle.cob_copybook_tree.specs.Forests.{Forest, NoEntries, AnEntry, entries_in}
use Rattle.cob_copybook_tree.specs.Nodes.{Resolved, MayHold}
use Rattle.cob_copybook_tree.specs.Lengths.{greatest_number_by}
use Rattle.cob_copybook_tree.specs.Resolving.{count_at, inherited, times_of, kind_by_picture, resolved}
use Rattle.cob_copybook_rules.specs.Tables.{AreTables, HasValidNumbers, dimension}
use Rattle.cob_copybook_rules.specs.Areas.{ArePossible}
use Rattle.cob_copybook_rules.specs.Filled.{AreFilled, IsFilled}
use Rattle.cob_picture.specs.Positions.{PlainPicture}
use Rattle.cob_copybook_entry.specs.declared.kinds.Usage.TheVariants.{Display}
use Rattle.cob_copybook_rules.specs.LengthRules.{KeepsLengthRules, BreaksLengthRule, FitBreaksNone}
use Rattle.cob_copybook_entry.specs.declared.fault.BookRule.{BookRule}
use Rattle.cob_copybook.specs.Records.{IsStored}

occurs_some : (o : Option PlainOccurs) (count : Option ℕ) → HasValidNumbers o → 0 < greatest_number_by (times_of o count)
occurs_some None count h = omega arith
occurs_some (Some (Fixed n)) count h = h
occurs_some (Some (Varying least most name qualifiers)) (Some count) h = omega (arith, h)
occurs_some (Some (Varying least most name qualifiers)) None h = omega (arith, h)

holds : (picture : Option PlainPicture) (use_ : Usage) (own : Option Sign) (right zero : Bool) (counts : List (Option ℕ)) (n : ℕ) (usage : Option Usage) (sign : Option Sign) (children : Forest PlainEntry)
    → IsFilled picture children → MayHold (kind_by_picture picture use_ own right zero) (resolved counts n usage sign children)
holds None use_ own right zero counts n usage sign children h = tt
holds (Some p) use_ own right zero counts n usage sign NoEntries h = tt
holds (Some p) use_ own right zero counts n usage sign (AnEntry e children more) h = absurd h

-- where each table is one, each entry occurs, and where each entry is an item or a group, items hold none
pub possible : (counts : List (Option ℕ)) (n m : ℕ) (usage : Option Usage) (sign : Option Sign) (f : Forest PlainEntry) → AreTables m f → AreFilled f → ArePossible (resolved counts n usage sign f)
possible counts n m usage sign NoEntries h filled = tt
possible counts n m usage sign (AnEntry e children more) h filled =
    let first = occurs_some e.occurs (count_at counts n) h.0 in
    let inner = holds e.picture (unwrap_or (inherited usage e.usage) Display) (inherited sign e.sign) e.justified e.blank counts (n + 1) (inherited usage e.usage) (inherited sign e.sign) children filled.0 in
    let below = possible counts (n + 1) (m + dimension e.occurs) (inherited usage e.usage) (inherited sign e.sign) children h.3 filled.1 in
    let beside = possible counts (n + 1 + entries_in children) m usage sign more h.4 filled.2 in
    (first, inner, below, beside)

-- a tree has one record
pub same_record : (counts : List (Option ℕ)) (written : Forest PlainEntry) (t u : Forest Resolved) (stored : IsStored written t) → counts ≡ stored.counts → u ≡ resolved counts 0 None None written → u ≡ t
same_record counts written t u stored same is = is ∙ ap (λ (cs : List (Option ℕ)). resolved cs 0 None None written) same ∙ sym stored.tree

-- a record that breaks a rule on lengths isn't that of a tree that keeps them
pub unfit : FitBreaksNone → (r : BookRule) (written : Forest PlainEntry) (t u : Forest Resolved) (stored : IsStored written t) → u ≡ t → BreaksLengthRule r u → ⊥
unfit none r written t u stored same breaks = none r u breaks (subst KeepsLengthRules (sym same) stored.fit)
