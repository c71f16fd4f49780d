-- What an entry describes stands by its number.
use Rattle.std.proofs.Common.{◌≡◌, ℕ, ◌+◌, ◌<◌, ◌==◌, List, [], ◌∷◌, ◌++◌, length, get_or, Option, Some, None, refl, sym, ap, subst, ◌∙◌, arith, inl, inr, append-nil}
use Rattle.std.proofs.lemmas.List.{length-append}
use Rattle.cob_copybook_tree.specs.declared.node.Kind.{Kind}
use Rattle.cob_copybook_tree.specs.Forests.{Forest, NoEntries, AnEntry, entries_in}
use Rattle.cob_copybook_tree.specs.Nodes.{Resolved}
use Rattle.cob_layout_places.specs.Places.{or_else}
use Rattle.cob_layout_places.specs.Cover.{AreNumbered}
use Rattle.cob_layout_places.specs.Counts.{kind_in}
use Rattle.cob_layout_places.specs.Needs.{Has}
use Rattle.cob_layout_places.proofs.NeedLaw.{has_number}
use Rattle.cob_layout.specs.Kinds.{kinds_of}
use Rattle.cob_layout.proofs.EndLemmas.{numbered}
use Rattle.cob_layout.proofs.AreaLemmas.{is_same, is_other}
use Rattle.cob_layout.proofs.NeedLemmas.{chosen_yes, chosen_no, kind_has}
use Rattle.cob_layout.proofs.SpotLaw.{at_seam, one_longer, first_part, second_part, third_part}

pub length_kinds : (f : Forest Resolved) → length (kinds_of f) ≡ entries_in f
length_kinds NoEntries = refl
length_kinds (AnEntry e children more) = omega (arith, length-append (kinds_of children) (kinds_of more), length_kinds children, length_kinds more)

none_is : (o : Option Kind) → ((k : Kind) → o ≡ Some k → ⊥) → o ≡ None
none_is None never = refl
none_is (Some k) never = absurd (never k refl)

kind_found : (f : Forest Resolved) (n r : ℕ) (front back all : List Kind) (d : Kind) → n ≡ length front → AreNumbered n f → all ≡ front ++ (kinds_of f ++ back) → Has r f → kind_in r f ≡ Some (get_or all r d)
kind_found NoEntries n r front back all d is num cut has = absurd has
kind_found (AnEntry e children more) n r front back all d is num cut (inl own) =
    chosen_yes (e.number == r) e.kind (kind_in r children) (kind_in r more) (is_same e.number r own)
    ∙ ap (λ (k : Kind). Some k) (sym (at_seam front ((kinds_of children ++ kinds_of more) ++ back) all e.kind d r (sym own ∙ num.0 ∙ is) (first_part front (kinds_of children) (kinds_of more) back all e.kind cut)))
kind_found (AnEntry e children more) n r front back all d is num cut (inr (inl kid)) =
    let low = numbered r (n + 1) children num.1 kid in
    let next : n + 1 ≡ length (front ++ e.kind ∷ []) = omega (arith, is, one_longer front e.kind) in
    let inside : kind_in r children ≡ Some (get_or all r d) =
    kind_found children (n + 1) r (front ++ e.kind ∷ []) (kinds_of more ++ back) all d next num.1 (second_part front (kinds_of children) (kinds_of more) back all e.kind cut) kid in
    chosen_no (e.number == r) e.kind (kind_in r children) (kind_in r more) (is_other e.number r (λ same. omega (arith, low.0, num.0, same)))
    ∙ ap (λ (o : Option Kind). or_else o (kind_in r more)) inside
kind_found (AnEntry e children more) n r front back all d is num cut (inr (inr beside)) =
    let low = numbered r (n + 1 + entries_in children) more num.2 beside in
    let next : n + 1 ≡ length (front ++ e.kind ∷ []) = omega (arith, is, one_longer front e.kind) in
    let last : n + 1 + entries_in children ≡ length ((front ++ e.kind ∷ []) ++ kinds_of children) =
    omega (arith, next, length-append (front ++ e.kind ∷ []) (kinds_of children), length_kinds children) in
    let none : kind_in r children ≡ None = none_is (kind_in r children) (λ k here. omega (arith, low.0, (numbered r (n + 1) children num.1 (kind_has r k children here)).1)) in
    chosen_no (e.number == r) e.kind (kind_in r children) (kind_in r more) (is_other e.number r (λ same. omega (arith, low.0, num.0, same)))
    ∙ ap (λ (o : Option Kind). or_else o (kind_in r more)) none
    ∙ kind_found more (n + 1 + entries_in children) r ((front ++ e.kind ∷ []) ++ kinds_of children) back all d last num.2 (third_part front (kinds_of children) (kinds_of more) back all e.kind cut) beside

-- the kind of an entry is found by its number
pub kind_at : (t u : Forest Resolved) (kinds : List Kind) (r : ℕ) (d : Kind) → AreNumbered 0 t → t ≡ u → kinds ≡ kinds_of t → r < entries_in u → kind_in r u ≡ Some (get_or kinds r d)
kind_at t u kinds r d num same are below =
    let here : r < entries_in t = subst (λ (v : Forest Resolved). r < entries_in v) (sym same) below in
    ap (λ (v : Forest Resolved). kind_in r v) (sym same)
    ∙ kind_found t 0 r [] [] kinds d refl num (are ∙ sym (append-nil (kinds_of t))) (has_number 0 r t num (omega arith) (omega (arith, here)))

-- and there is one for each entry
pub room_of_kinds : (t u : Forest Resolved) (kinds : List Kind) (r : ℕ) → t ≡ u → kinds ≡ kinds_of t → r < entries_in u → r < length kinds
room_of_kinds t u kinds r same are below =
    omega (arith, ap (λ (ks : List Kind). length ks) are, length_kinds t, subst (λ (v : Forest Resolved). r < entries_in v) (sym same) below)
