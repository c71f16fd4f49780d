-- A record has its counts in one way.
use Rattle.std.proofs.Common.{◌≡◌, ℕ, ◌+◌, List, [], ◌∷◌, Option, Some, None, sym, ap, ◌∙◌}
use Rattle.cob_copybook_entry.specs.Described.{PlainEntry, PlainOccurs, Fixed, Varying}
use Rattle.cob_copybook_names.specs.Naming.{Bearer}
use Rattle.cob_copybook_names.specs.Entries.{NumberedEntry}
use Rattle.cob_copybook_names.specs.Counts.{IsCountOfTable, IsCountOf, AreCounts}

-- two lists of one that are the same have the same
pub one_only : {X : Type 0} (all : List X) (a b : X) → all ≡ a ∷ [] → all ≡ b ∷ [] → a ≡ b
one_only all a b x y = cc

pub one_count : (all : List (Bearer NumberedEntry)) (n : ℕ) (name : List ℕ) (qualifiers : List (List ℕ)) (a b : ℕ) → IsCountOfTable all n name qualifiers a → IsCountOfTable all n name qualifiers b → a ≡ b
one_count all n name qualifiers a b x y = sym x.number ∙ ap (λ (c : Bearer NumberedEntry). c.entry.number) (one_only _ x.bearer y.bearer x.only y.only) ∙ y.number

one_count_of : (all : List (Bearer NumberedEntry)) (n : ℕ) (o : Option PlainOccurs) (a b : Option ℕ) → IsCountOf all n o a → IsCountOf all n o b → a ≡ b
one_count_of all n None a b x y = x ∙ sym y
one_count_of all n (Some (Fixed times)) a b x y = x ∙ sym y
one_count_of all n (Some (Varying least most name qualifiers)) None b x y = absurd x
one_count_of all n (Some (Varying least most name qualifiers)) (Some a) None x y = absurd y
one_count_of all n (Some (Varying least most name qualifiers)) (Some a) (Some b) x y = ap (λ (c : ℕ). Some c) (one_count all n name qualifiers a b x y)

pub one_list : (all : List (Bearer NumberedEntry)) (n : ℕ) (es : List PlainEntry) (a b : List (Option ℕ)) → AreCounts all n es a → AreCounts all n es b → a ≡ b
one_list all n [] a b x y = x ∙ sym y
one_list all n (e ∷ es) a b x y =
    let heads = one_count_of all n e.occurs x.0 y.0 x.3 y.3 in
    let tails = one_list all (n + 1) es x.1 y.1 x.4 y.4 in
    x.2 ∙ ap (λ h. h ∷ x.1) heads ∙ ap (λ t. y.0 ∷ t) tails ∙ sym y.2
