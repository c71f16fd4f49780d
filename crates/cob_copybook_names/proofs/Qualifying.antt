-- Qualifiers are taken greedily.
use Rattle.std.proofs.Common.{◌≡◌, ℕ, Bool, true, false, List, [], ◌∷◌, refl, inl, inr}
use Rattle.std.specs.Prelude.{bytes_eq}
use Rattle.std.proofs.lemmas.Slice.Eq.{bytes_eq-Decides}
use Rattle.cob_copybook_names.specs.Laws.{QualifyingIsOne}
use Rattle.cob_copybook_names.specs.Naming.{Qualify, qualifies}

-- a further group below harms nothing
below : (qs : List (List ℕ)) (a : List ℕ) (above : List (List ℕ)) → Qualify qs above → Qualify qs (a ∷ above)
below [] a above h = tt
below (q ∷ qs) a above h = inr h

-- fewer qualifiers qualify too
fewer : (q : List ℕ) (qs above : List (List ℕ)) → Qualify (q ∷ qs) above → Qualify qs above
fewer q qs [] h = absurd h
fewer q qs (a ∷ above) h = elim h [ inl w ↦ below qs a above w.1 | inr w ↦ below qs a above (fewer q qs above w) ]

-- where the group bears the first qualifier, the others have to name groups above it
taken : (q a : List ℕ) (qs above : List (List ℕ)) → Qualify (q ∷ qs) (a ∷ above) → Qualify qs above
taken q a qs above h = elim h [ inl w ↦ w.1 | inr w ↦ fewer q qs above w ]

-- a group that doesn't bear the first qualifier is a gap
skipped : (q a : List ℕ) (qs above : List (List ℕ)) → (q ≡ a → ⊥) → Qualify (q ∷ qs) (a ∷ above) → Qualify (q ∷ qs) above
skipped q a qs above ne h = elim h [ inl w ↦ absurd (ne w.0) | inr w ↦ w ]

step_one : (q a : List ℕ) (qs above : List (List ℕ)) (t : Bool) → bytes_eq q a ≡ t → (qualifies qs above ≡ true → Qualify qs above) → (qualifies (q ∷ qs) above ≡ true → Qualify (q ∷ qs) above)
    → qualifies (q ∷ qs) (a ∷ above) ≡ true → Qualify (q ∷ qs) (a ∷ above)
step_one q a qs above true e f g = rw e (λ h. inl ((bytes_eq-Decides q a).0 e, f h))
step_one q a qs above false e f g = rw e (λ h. inr (g h))

one_way : (qs above : List (List ℕ)) → qualifies qs above ≡ true → Qualify qs above
one_way [] above h = tt
one_way (q ∷ qs) [] h = absurd cc
one_way (q ∷ qs) (a ∷ above) h = step_one q a qs above (bytes_eq q a) refl (one_way qs above) (one_way (q ∷ qs) above) h

step_other : (q a : List ℕ) (qs above : List (List ℕ)) (t : Bool) → bytes_eq q a ≡ t → (Qualify qs above → qualifies qs above ≡ true) → (Qualify (q ∷ qs) above → qualifies (q ∷ qs) above ≡ true)
    → Qualify (q ∷ qs) (a ∷ above) → qualifies (q ∷ qs) (a ∷ above) ≡ true
step_other q a qs above true e f g h = rw e (f (taken q a qs above h))
step_other q a qs above false e f g h = rw e (g (skipped q a qs above (λ is. let yes_it_is = (bytes_eq-Decides q a).1 is in cc) h))

other_way : (qs above : List (List ℕ)) → Qualify qs above → qualifies qs above ≡ true
other_way [] above h = refl
other_way (q ∷ qs) [] h = absurd h
other_way (q ∷ qs) (a ∷ above) h = step_other q a qs above (bytes_eq q a) refl (other_way qs above) (other_way (q ∷ qs) above) h

pub qualifying : QualifyingIsOne
qualifying qs above = (one_way qs above, other_way qs above)
