-- From one bearer of a name to the one before it.
use Rattle.std.proofs.Common.{◌≡◌, ℕ, ◌+◌, ◌<◌, ◌≤◌, List, [], ◌∷◌, ◌++◌, length, get_or, Option, Some, None, Bool, true, false, refl, sym, ap, subst, ◌∙◌, inl, inr, ◌⊎◌, arith, below_more}
use Rattle.std.specs.Cmp.Lexicographic.{pointwise, bytes_decides}
use Rattle.std.specs.Bool.{nat_eq}
use Rattle.std.proofs.Math.ListN.{get_or-append}
use Rattle.std.proofs.Math.Seq.{get_or-append_seam}
use Rattle.cob_copybook_names.specs.Links.{BearsAt, entries_up_to, IsLast, AreLinked}

-- an entry bears the name or doesn't
pub is_or_not : (own : Option (List ℕ)) (name : List ℕ) → (own ≡ Some name) ⊎ (own ≡ Some name → ⊥)
is_or_not None name = inr (λ e. cc)
is_or_not (Some own) name = by (pointwise nat_eq own name) refl
  where
    by : (b : Bool) → pointwise nat_eq own name ≡ b → (Some own ≡ Some name) ⊎ (Some own ≡ Some name → ⊥)
    by true e = inl (ap (λ n. Some n) ((bytes_decides own name).0 e))
    by false e = inr (λ s. let same : own ≡ name = cc in let yes = (bytes_decides own name).1 same in cc)

-- a further entry that doesn't bear the name changes nothing
pub last_more : (names : List (Option (List ℕ))) (name : List ℕ) (k : ℕ) (place : Option ℕ) → IsLast names name k place → (BearsAt names name k → ⊥) → IsLast names name (k + 1) place
last_more names name k place h ne =
    let others = below_more (λ j. entries_up_to place ≤ j → BearsAt names name j → ⊥) k (λ j lt le. h.others j le lt) (λ le. ne) in
    record { before = omega (arith, h.before); bears = h.bears; others = λ j le lt. others j lt le }

-- a further entry that bears it is the last
pub last_here : (names : List (Option (List ℕ))) (name : List ℕ) (k : ℕ) → BearsAt names name k → IsLast names name (k + 1) (Some k)
last_here names name k h = record { before = omega arith; bears = λ p e. let same : k ≡ p = cc in subst (BearsAt names name) same h; others = λ j le lt. absurd (omega (arith, le, lt)) }

-- a further entry is linked
pub linked_more : (names : List (Option (List ℕ))) (earlier : List (Option ℕ)) (k : ℕ) (place : Option ℕ) → length earlier ≡ k → AreLinked names earlier k
    → ((name : List ℕ) → BearsAt names name k → IsLast names name k place) → AreLinked names (earlier ++ place ∷ []) (k + 1)
linked_more names earlier k place sized h here = λ j name lt bears.
    below_more (λ j. (name : List ℕ) → BearsAt names name j → IsLast names name j (get_or (earlier ++ place ∷ []) j None)) k
    (λ j lt name bears. let in_front : j < length earlier = omega (arith, sized, lt) in subst (IsLast names name j) (sym (get_or-append earlier (place ∷ []) None j in_front)) (h j name lt bears))
    (λ name bears. subst (IsLast names name k) (sym (ap (λ n. get_or (earlier ++ place ∷ []) n None) (sym sized) ∙ get_or-append_seam earlier place [] None)) (here name bears))
    j lt name bears

-- a text that isn't this one differs from it
pub differs : (own name : List ℕ) → (own ≡ name → ⊥) → pointwise nat_eq own name ≡ false
differs own name ne = by (pointwise nat_eq own name) refl
  where
    by : (b : Bool) → pointwise nat_eq own name ≡ b → b ≡ false
    by true e = absurd (ne ((bytes_decides own name).0 e))
    by false e = refl

-- what is noted for each name once a further entry is noted
pub latest_more : (names : List (Option (List ℕ))) (k : ℕ) (own : Option (List ℕ)) → get_or names k None ≡ own → (old new : List ℕ → Option ℕ)
    → ((name : List ℕ) → own ≡ Some name → new name ≡ Some k) → ((name : List ℕ) → (own ≡ Some name → ⊥) → new name ≡ old name)
    → ((name : List ℕ) → IsLast names name k (old name)) → (name : List ℕ) → IsLast names name (k + 1) (new name)
latest_more names k own here old new noted others h name = elim (is_or_not own name) [
  | inl e ↦ subst (IsLast names name (k + 1)) (sym (noted name e)) (last_here names name k (here ∙ e))
  | inr ne ↦ subst (IsLast names name (k + 1)) (sym (others name ne)) (last_more names name k (old name) (h name) (λ b. ne (sym here ∙ b)))
]
