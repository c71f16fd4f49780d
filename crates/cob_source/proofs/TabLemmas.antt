-- Texts with spaces in place of tabs.
use Rattle.std.proofs.Common.{◌≡◌, ◌≢◌, ℕ, ◌+◌, ◌-◌, ◌<◌, ◌≤◌, Bool, true, false, List, [], ◌∷◌, ◌++◌, replicate, refl, sym, ap, ◌∙◌, append_assoc}
use Rattle.std.specs.Prelude.{◌==◌, ◌%◌, nat_lt}
use Rattle.std.specs.List.{list_any}
use Rattle.std.proofs.lemmas.Bool.{ne_eqb, eq-eqb, lt-ltb, le-ltb}
use Rattle.cob_source.specs.Tabs.{untabbed_from}

one_more : (old new rest : List ℕ) (b : ℕ) → new ≡ old ++ b ∷ [] → old ++ b ∷ rest ≡ new ++ rest
one_more old new rest b n = sym (append_assoc old (b ∷ []) rest) ∙ ap (λ (l : List ℕ). l ++ rest) (sym n)

-- a line's end
pub feed_put : (w k b : ℕ) (old new rest : List ℕ) → b ≡ 10 → new ≡ old ++ b ∷ [] → old ++ untabbed_from w k (b ∷ rest) ≡ new ++ untabbed_from w 0 rest
feed_put w k b old new rest e n =
    let t : (b == 10) ≡ true = eq-eqb _ _ e in
    rw t (one_more old new (untabbed_from w 0 rest) b n)

-- a character from column 73 on
pub far_put : (w k b : ℕ) (old new rest : List ℕ) → b ≢ 10 → 72 ≤ k → new ≡ old ++ b ∷ [] → old ++ untabbed_from w k (b ∷ rest) ≡ new ++ untabbed_from w k rest
far_put w k b old new rest ne far n =
    let t : (b == 10) ≡ false = ne_eqb _ _ ne in
    let u : nat_lt k 72 ≡ false = le-ltb _ _ far in
    rw (t, u) (one_more old new (untabbed_from w k rest) b n)

-- a tab
pub tab_put : (w k b : ℕ) (old new rest : List ℕ) → b ≢ 10 → k < 72 → b ≡ 9 → new ≡ old ++ replicate (w - k % w) 32
    → old ++ untabbed_from w k (b ∷ rest) ≡ new ++ untabbed_from w (k + (w - k % w)) rest
tab_put w k b old new rest ne near e n =
    let t : (b == 10) ≡ false = ne_eqb _ _ ne in
    let u : nat_lt k 72 ≡ true = lt-ltb _ _ near in
    let v : (b == 9) ≡ true = eq-eqb _ _ e in
    rw (t, u, v) (sym (append_assoc old (replicate (w - k % w) 32) (untabbed_from w (k + (w - k % w)) rest)) ∙ ap (λ (l : List ℕ). l ++ untabbed_from w (k + (w - k % w)) rest) (sym n))

-- another character
pub other_put : (w k b : ℕ) (old new rest : List ℕ) → b ≢ 10 → k < 72 → b ≢ 9 → new ≡ old ++ b ∷ [] → old ++ untabbed_from w k (b ∷ rest) ≡ new ++ untabbed_from w (k + 1) rest
other_put w k b old new rest ne near other n =
    let t : (b == 10) ≡ false = ne_eqb _ _ ne in
    let u : nat_lt k 72 ≡ true = lt-ltb _ _ near in
    let v : (b == 9) ≡ false = ne_eqb _ _ other in
    rw (t, u, v) (one_more old new (untabbed_from w (k + 1) rest) b n)

-- a text without tabs stays as it is
pub untabbed_same : (w k : ℕ) (text : List ℕ) → list_any (λ b. b == 9) text ≡ false → untabbed_from w k text ≡ text
untabbed_same w k [] e = refl
untabbed_same w k (b ∷ bs) e = go (b == 9) (b == 10) (nat_lt k 72) refl refl refl e (λ j r. untabbed_same w j bs r)
  where
    go : (x y z : Bool) → (b == 9) ≡ x → (b == 10) ≡ y → nat_lt k 72 ≡ z → list_any (λ b. b == 9) (b ∷ bs) ≡ false
        → ((j : ℕ) → list_any (λ b. b == 9) bs ≡ false → untabbed_from w j bs ≡ bs) → untabbed_from w k (b ∷ bs) ≡ b ∷ bs
    go true y z ex ey ez h rest = absurd (let t : true ≡ false = rw ex at h in cc)
    go false true z ex ey ez h rest = let r : list_any (λ b. b == 9) bs ≡ false = rw ex at h in rw ey (ap (λ (l : List ℕ). b ∷ l) (rest 0 r))
    go false false true ex ey ez h rest = let r : list_any (λ b. b == 9) bs ≡ false = rw ex at h in rw (ey, ez, ex) (ap (λ (l : List ℕ). b ∷ l) (rest (k + 1) r))
    go false false false ex ey ez h rest = let r : list_any (λ b. b == 9) bs ≡ false = rw ex at h in rw (ey, ez) (ap (λ (l : List ℕ). b ∷ l) (rest k r))
