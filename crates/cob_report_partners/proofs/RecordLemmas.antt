-- The names of groups, those that are noted, and those that two records share.
use Rattle.std.proofs.Common.{◌≡◌, ℕ, zero, suc, ◌-◌, ◌<◌, Bool, true, false, ◌&&◌, ◌||◌, List, [], ◌∷◌, length, map, take, get_or, refl, sym, ap, ◌∙◌, arith, inl, inr, Option, Some, None, IfSome, filter, slice_get}
use Rattle.std.specs.Borrow.{Bor}
use Rattle.std.specs.Prelude.{bytes_eq, nat_eq}
use Rattle.std.proofs.lemmas.Bool.Decides.{eqb_tells}
use Rattle.std.proofs.lemmas.List.{length-map, take-map}
use Rattle.std.proofs.lemmas.List.Elements.{filter_agree}
use Rattle.std.proofs.lemmas.Slice.Eq.{bytes_eq-Decides}
use Rattle.cob_copybook_names.specs.declared.bearer.Bearer.{Bearer as Listed}
use Rattle.cob_copybook_names.specs.Listed.{texts}
use Rattle.cob_copybook_names.specs.Naming.{Bearer, has_name}
use Rattle.cob_move_names.specs.Pairs.{same_names}
use Rattle.cob_report_partners.specs.Entries.{DraftEntry, listed_bearer}
use Rattle.cob_report_partners.specs.Groups.{AreGroups, below_record, has_group, names_group, shared_above}
use Rattle.cob_report_partners.specs.declared.entries.DraftEntry.{DraftEntry as ListedEntry}
use Rattle.cob_report_partners.specs.declared.groups.GroupNames.{GroupNames}

cut_texts : (n m : ℕ) (names : List (Bor (List ℕ))) → n ≡ m → texts (take n names) ≡ take m (texts names)
cut_texts n m names is = sym (take-map (λ (t : Bor (List ℕ)). t.now) n names) ∙ ap (λ k. take k (texts names)) is

pub below : (n : ℕ) (names : List (Bor (List ℕ))) → n ≡ length names - 1 → texts (take n names) ≡ below_record (texts names)
below n names is = cut_texts n (length (texts names) - 1) names (is ∙ ap (λ k. k - 1) (sym (length-map names (λ (t : Bor (List ℕ)). t.now))))

-- numbers that differ do not compare equal
pub differ : (m n : ℕ) → (m ≡ n → ⊥) → nat_eq m n ≡ false
differ m n ne = elim (eqb_tells m n) [
  | inl told ↦ absurd (ne told.1)
  | inr told ↦ told.0
]

-- lists of names that are not as long are not the same
pub not_as_long : (xs ys : List (List ℕ)) → (length xs ≡ length ys → ⊥) → same_names xs ys ≡ false
not_as_long [] [] ne = absurd (ne refl)
not_as_long [] (y ∷ ys) ne = refl
not_as_long (x ∷ xs) [] ne = refl
not_as_long (x ∷ xs) (y ∷ ys) ne = by (bytes_eq x y) (same_names xs ys) (not_as_long xs ys (λ e. ne (omega (arith, e))))
  where
    by : (t u : Bool) → u ≡ false → (t && u) ≡ false
    by true u is = is
    by false u is = refl

-- what is noted for a name once that of a group is noted
pub noted_more : (own : Option (List ℕ)) (name : List ℕ) (old new here rest : Bool) → (own ≡ Some name → new ≡ true) → ((own ≡ Some name → ⊥) → new ≡ old)
    → has_name name own ≡ here → (new || rest) ≡ (old || (here || rest))
noted_more None name old new here rest noted others is = rw (others (λ e. absurd cc), sym is) refl
noted_more (Some own) name old new true rest noted others is = rw (noted (ap (λ (n : List ℕ). Some n) ((bytes_eq-Decides own name).0 is))) (either old)
  where
    either : (b : Bool) → true ≡ (b || true)
    either true = refl
    either false = refl
noted_more (Some own) name old new false rest noted others is =
    rw (others (λ e. let same : own ≡ name = cc in let told = (bytes_eq-Decides own name).1 same in absurd (cc))) refl

-- those of the names above entries that are noted are those that groups of the other record have
pub sharing : (groups : GroupNames) (others : List (Bearer DraftEntry)) → AreGroups others groups → (bs : List (Bearer DraftEntry))
    → map (λ (b : Bearer DraftEntry). filter (has_group groups) (below_record b.above)) bs ≡ map (shared_above others) bs
sharing groups others are [] = refl
sharing groups others are (b ∷ bs) =
    ap (λ (x : List (List ℕ)). x ∷ map (λ (b : Bearer DraftEntry). filter (has_group groups) (below_record b.above)) bs) (filter_agree (has_group groups) (names_group others) are (below_record b.above))
    ∙ ap (λ (t : List (List (List ℕ))). shared_above others b ∷ t) (sharing groups others are bs)

pub as_many : {X Y : Type 0} (f : X → Y) (g : Bearer DraftEntry → Y) (xs : List X) (bs : List (Listed ListedEntry)) → map f xs ≡ map g (map listed_bearer bs) → length xs ≡ length bs
as_many f g xs bs same = sym (length-map xs f) ∙ ap length same ∙ length-map (map listed_bearer bs) g ∙ length-map bs listed_bearer

-- what stands at a place of a list that is another one by entries
pub at_place : {X Y : Type 0} (f : X → Y) (g : Bearer DraftEntry → Y) (xs : List X) (bs : List (Listed ListedEntry)) (i : ℕ) (x : X) → map f xs ≡ map g (map listed_bearer bs)
    → i < length xs → x ≡ get_or xs i x → IfSome (slice_get bs i) (λ b. f x ≡ g (listed_bearer b))
at_place f g [] bs i x same lt is = absurd (omega (arith, lt))
at_place f g (y ∷ ys) [] i x same lt is = absurd (cc)
at_place {X} f g (y ∷ ys) (b ∷ bs) zero x same lt is = let here : f y ≡ g (listed_bearer b) = cc in ap f is ∙ here
at_place f g (y ∷ ys) (b ∷ bs) (suc i) x same lt is = let more : map f ys ≡ map g (map listed_bearer bs) = cc in at_place f g ys bs i x more (omega (arith, lt)) is
