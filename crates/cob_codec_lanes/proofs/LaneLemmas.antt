-- The vector operations, lane by lane.
use Rattle.std.proofs.Common.{◌≡◌, ℕ, zero, suc, ◌+◌, ◌*◌, ◌/◌, ◌%◌, ◌^◌, ◌<◌, ◌↔◌, Bool, true, false, not, cond, eqb, ltb, leb, T, ◌||◌, List, [], ◌∷◌, map, length, get_or, drop, replicate, bit_or, refl, sym, ap, ◌∙◌, inl, inr, arith, w8, Fits, eqb-true, ltb-true, eq-eqb, leb-true}
use Rattle.std.proofs.lemmas.Bool.{cases_lt, eqb-false}
use Rattle.std.proofs.lemmas.List.{get_or_past, length-map}
use Rattle.std.proofs.lemmas.Nat.{and_le_l, and_le_r}
use Rattle.std.proofs.lemmas.Simd.{Each1-from_get_or, length-zip2, mask_l-mod, swz_l, SwzOk, SwzOk-from_Each1, get_or-swz_l, bitmask_splat, first_set_mask_l}
use Rattle.std.specs.List.{prefix_len}
use lib.Bits.{or_add_and}
use lib.Lanes.{zip2, mask_l, top, Each1}
use mir.Val.{zeroes}
use Rattle.cob_codec_lanes.specs.Lanes.{first_set, AreZero, is_pick, picked_at, halves_at}

pub lane_fits : (v : List ℕ) (i : ℕ) → Each1 (Fits w8) v → get_or v i 0 < 256
lane_fits [] i h = omega arith
lane_fits (x ∷ xs) zero h = h.0.fits
lane_fits (x ∷ xs) (suc i) h = lane_fits xs i h.1

-- ---- positions

pub ok_pick : (j : ℕ) → is_pick j ≡ true → T (zeroes 16 w8 j || ltb j 16)
ok_pick j e = go (leb 128 j) (ltb j 16) e
  where
    go : (a b : Bool) → (b || a) ≡ true → T (a || b)
    go true b e = tt
    go false true e = tt
    go false false e = absurd cc

pub picks_ok : (js : List ℕ) → length js ≡ 16 → ((i : ℕ) → i < 16 → is_pick (get_or js i 0) ≡ true) → SwzOk w8 16 16 0 js
picks_ok js long ok =
    SwzOk-from_Each1 w8 16 1 16 0 js refl (omega arith)
    (Each1-from_get_or (λ j. T (zeroes 16 w8 j || ltb j 16)) js 0 (λ i h. ok_pick (get_or js i 0) (ok i (omega arith))))

picked_one : (v : List ℕ) (m j : ℕ) → m < 16 → is_pick j ≡ true → cond (zeroes 16 w8 j) 0 (get_or v (16 * ((0 + m) / 16) + j) 0) ≡ picked_at v j
picked_one v m j lt e = go (leb 128 j) refl (ltb j 16) refl
  where
    go : (a : Bool) → leb 128 j ≡ a → (b : Bool) → ltb j 16 ≡ b → cond a 0 (get_or v (16 * ((0 + m) / 16) + j) 0) ≡ cond b (get_or v j 0) 0
    go true p true q = absurd (omega (arith, leb-true _ _ p, ltb-true _ _ q))
    go true p false q = refl
    go false p true q = ap (λ k. get_or v k 0) (omega arith)
    go false p false q = absurd cc

pub picked_lane : (v js : List ℕ) (m : ℕ) → length js ≡ 16 → ((i : ℕ) → i < 16 → is_pick (get_or js i 0) ≡ true) → m < 16 → get_or (swz_l w8 16 v 0 js) m 0 ≡ picked_at v (get_or js m 0)
picked_lane v js m long ok lt = get_or-swz_l w8 16 v 0 js m (omega arith) ∙ picked_one v m (get_or js m 0) lt (ok m lt)

-- ---- tests of all lanes

abbrev pub differs : ℕ → ℕ → ℕ
differs a b = cond (not (eqb a b)) 255 0

flag_of : (x y : ℕ) → (◌≡◌ {A = ℕ} (cond (top 7 (differs x y)) 1 0) 0) ↔ (x ≡ y)
flag_of x y = go (eqb x y) refl
  where
    go : (t : Bool) → eqb x y ≡ t → (◌≡◌ {A = ℕ} (cond (top 7 (cond (not t) 255 0)) 1 0) 0) ↔ (x ≡ y)
    go true e = (λ _. eqb-true _ _ e, λ _. refl)
    go false e = (λ q. absurd (omega arith), λ z. absurd (eqb-false _ _ e z))

-- all lanes of a list are 0
abbrev AllZero : List ℕ → Type 0
AllZero v = (i : ℕ) → get_or v i 0 ≡ 0

none_differ : (xs : List ℕ) → (mask_l (map (top 7) (zip2 differs xs (replicate (length xs) 0))) ≡ 0) ↔ AllZero xs
none_differ [] = (λ _ i. refl, λ _. refl)
none_differ (x ∷ xs) =
    let r = none_differ xs in
    (λ e. elim [ zero ↦ (flag_of x 0).0 (omega arith) | suc i ↦ r.0 (omega arith) i ], λ h. omega (arith, (flag_of x 0).1 (h 0), r.1 (λ i. h (suc i))))

all_zero : (v : List ℕ) → length v ≡ 16 → AreZero v → AllZero v
all_zero v long h i = elim (cases_lt i 16) [ inl l ↦ h i l | inr g ↦ get_or_past v i 0 (omega arith) ]

mask_small : (f : ℕ → ℕ → ℕ) (xs ys : List ℕ) → length xs ≡ 16 → length ys ≡ 16 → mask_l (map (top 7) (zip2 f xs ys)) % 2 ^ 64 ≡ mask_l (map (top 7) (zip2 f xs ys))
mask_small f xs ys p q = mask_l-mod _ 64 (omega (arith, length-map (zip2 f xs ys) (top 7), length-zip2 f xs ys (p ∙ sym q)))

pub zero_of_mask : (xs : List ℕ) → length xs ≡ 16 → (eqb (mask_l (map (top 7) (zip2 differs xs (replicate 16 0))) % 2 ^ 64) 0 ≡ true) ↔ AreZero xs
zero_of_mask xs long =
    let e = mask_small differs xs (replicate 16 0) long refl ∙ ap (λ n. mask_l (map (top 7) (zip2 differs xs (replicate n 0)))) (sym long) in
    (λ t i h. (none_differ xs).0 (sym e ∙ eqb-true _ _ t) i, λ z. eq-eqb _ _ (e ∙ (none_differ xs).1 (all_zero xs long z)))

-- no lane of two differs
all_same : (xs ys : List ℕ) → length xs ≡ length ys → (mask_l (map (top 7) (zip2 differs xs ys)) ≡ 0) ↔ (xs ≡ ys)
all_same [] [] e = (λ _. refl, λ _. refl)
all_same [] (y ∷ ys) e = absurd (omega arith)
all_same (x ∷ xs) [] e = absurd (omega arith)
all_same (x ∷ xs) (y ∷ ys) e =
    let r = all_same xs ys (omega arith) in (
      λ m. (let first : x ≡ y = (flag_of x y).0 (omega arith) in let rest : xs ≡ ys = r.0 (omega arith) in ap (λ z. z ∷ xs) first ∙ ap (λ zs. y ∷ zs) rest),
      λ h. omega (arith, (flag_of x y).1 (ap (λ l. get_or l 0 0) h), r.1 (ap (drop 1) h)),
    )

pub same_of_mask : (xs ys : List ℕ) → length xs ≡ 16 → length ys ≡ 16 → (eqb (mask_l (map (top 7) (zip2 differs xs ys)) % 2 ^ 64) 0 ≡ true) ↔ (xs ≡ ys)
same_of_mask xs ys p q =
    let e = mask_small differs xs ys p q in
    let r = all_same xs ys (p ∙ sym q) in
    (λ t. r.0 (sym e ∙ eqb-true _ _ t), λ z. eq-eqb _ _ (e ∙ r.1 z))

or_zero : (a b : ℕ) → a < 256 → b < 256 → (bit_or a b ≡ 0) ↔ ((a ≡ 0) × (b ≡ 0))
or_zero a b A B = (
  λ e. omega (arith, or_add_and a b, and_le_l a b, and_le_r a b),
  λ h. rw (h.0, h.1),
)

either_all : (xs ys : List ℕ) → length xs ≡ length ys → Each1 (Fits w8) xs → Each1 (Fits w8) ys → AllZero (zip2 bit_or xs ys) ↔ (AllZero xs × AllZero ys)
either_all [] [] e f g = (λ h. (h, h), λ h. h.0)
either_all [] (y ∷ ys) e f g = absurd (omega arith)
either_all (x ∷ xs) [] e f g = absurd (omega arith)
either_all (x ∷ xs) (y ∷ ys) e f g =
    let r = either_all xs ys (omega arith) f.1 g.1 in
    let o = or_zero x y f.0.fits g.0.fits in (
      λ h. (elim [ zero ↦ (o.0 (h 0)).0 | suc i ↦ (r.0 (λ k. h (suc k))).0 i ], elim [ zero ↦ (o.0 (h 0)).1 | suc i ↦ (r.0 (λ k. h (suc k))).1 i ]),
      λ h. elim [ zero ↦ o.1 (h.0 0, h.1 0) | suc i ↦ r.1 (λ k. h.0 (suc k), λ k. h.1 (suc k)) i ],
    )

pub either_zero : (xs ys : List ℕ) → length xs ≡ 16 → length ys ≡ 16 → Each1 (Fits w8) xs → Each1 (Fits w8) ys → AreZero (zip2 bit_or xs ys) ↔ (AreZero xs × AreZero ys)
either_zero xs ys p q f g =
    let r = either_all xs ys (p ∙ sym q) f g in (
      λ h. let both = r.0 (all_zero (zip2 bit_or xs ys) (length-zip2 bit_or xs ys (p ∙ sym q) ∙ p) h) in (λ i _. both.0 i, λ i _. both.1 i),
      λ h i _. r.1 (all_zero xs p h.0, all_zero ys q h.1) i,
    )

-- ---- half bytes that are taken

high_taken : (v upper : List ℕ) (p : ℕ) → ((j : ℕ) → j < 16 → get_or upper j 0 ≡ get_or v j 0 / 16) → picked_at upper p ≡ cond (ltb p 16) (get_or v p 0 / 16) 0
high_taken v upper p is = go (ltb p 16) refl
  where
    go : (b : Bool) → ltb p 16 ≡ b → cond b (get_or upper p 0) 0 ≡ cond b (get_or v p 0 / 16) 0
    go true e = is p (ltb-true _ _ e)
    go false e = refl

low_taken : (v lower : List ℕ) (p : ℕ) → ((j : ℕ) → j < 16 → get_or lower j 0 ≡ get_or v j 0 % 16) → picked_at lower p ≡ cond (ltb p 16) (get_or v p 0 % 16) 0
low_taken v lower p is = go (ltb p 16) refl
  where
    go : (b : Bool) → ltb p 16 ≡ b → cond b (get_or lower p 0) 0 ≡ cond b (get_or v p 0 % 16) 0
    go true e = is p (ltb-true _ _ e)
    go false e = refl

half_below : (b : Bool) (x : ℕ) → x < 16 → cond b x 0 < 16
half_below true x lt = lt
half_below false x lt = omega arith

pub halves_taken : (v upper lower : List ℕ) (p q : ℕ) → ((j : ℕ) → j < 16 → get_or upper j 0 ≡ get_or v j 0 / 16) → ((j : ℕ) → j < 16 → get_or lower j 0 ≡ get_or v j 0 % 16)
    → Each1 (Fits w8) v → (picked_at upper p + picked_at lower q) % 256 ≡ halves_at v p q
halves_taken v upper lower p q high low bytes =
    let a : picked_at upper p ≡ cond (ltb p 16) (get_or v p 0 / 16) 0 = high_taken v upper p high in
    let b : picked_at lower q ≡ cond (ltb q 16) (get_or v q 0 % 16) 0 = low_taken v lower q low in
    let top : cond (ltb p 16) (get_or v p 0 / 16) 0 < 16 = half_below (ltb p 16) _ (omega (arith, lane_fits v p bytes)) in
    let bottom : cond (ltb q 16) (get_or v q 0 % 16) 0 < 16 = half_below (ltb q 16) _ (omega arith) in
    omega arith

-- ---- the first lane that is not 0

twice_not : (xs : List ℕ) → prefix_len (λ x. not (not (eqb x 0))) xs ≡ prefix_len (λ x. eqb x 0) xs
twice_not [] = refl
twice_not (x ∷ xs) = go (eqb x 0) (twice_not xs)
  where
    go : (b : Bool) → prefix_len (λ x. not (not (eqb x 0))) xs ≡ prefix_len (λ x. eqb x 0) xs
        → cond {A = ℕ} (not (not b)) (1 + prefix_len (λ x. not (not (eqb x 0))) xs) 0 ≡ cond {A = ℕ} b (1 + prefix_len (λ x. eqb x 0) xs) 0
    go true e = ap (λ n. 1 + n) e
    go false e = refl

pub first_lane_set : (v : List ℕ) → length v ≡ 16 → first_set (mask_l (map (top 7) (zip2 differs v (replicate 16 0))) % 2 ^ 64) ≡ prefix_len (λ d. eqb d 0) v
first_lane_set v long =
    ap first_set (bitmask_splat w8 (λ a b. not (eqb a b)) v 16 0 long (omega arith))
    ∙ first_set_mask_l (λ x. not (eqb x 0)) v 16 long (omega arith)
    ∙ twice_not v
