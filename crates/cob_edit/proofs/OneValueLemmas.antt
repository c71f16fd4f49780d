-- Each text is that of one sign and one list of digits at most.
use Rattle.std.proofs.Common.{◌≡◌, ℕ, ◌+◌, ◌-◌, ◌<◌, ◌≤◌, List, [], ◌∷◌, ◌++◌, length, take, get_or, refl, ap, sym, ◌∙◌, arith, Bool, true, false, count_by, inl, inr, zero, suc, MatchBool, subst, cond, ◌⊎◌, zero-add}
use Rattle.std.specs.Prelude.{◌==◌, ◌&&◌, ◌||◌, if◌then◌else◌, drop}
use Rattle.std.specs.List.{list_any, list_all, flat_map, prefix_len}
use Rattle.std.proofs.lemmas.Bool.{cases_lt}
use Rattle.std.proofs.lemmas.Bool.Decides.{nat_tests}
use Rattle.std.proofs.lemmas.List.{same_lists, get_or_default, get_or-drop}
use Rattle.std.proofs.lemmas.List.Sums.{sum_by-cons}
use Rattle.cob_edit.specs.declared.place.EditedPlace.{EditedPlace}
use Rattle.cob_edit.specs.declared.place.EditedPlace.TheVariants.{Inserted, Point, Digit, Suppressed, Floating, First, Fixed, AssumedPoint}
use Rattle.cob_edit.specs.declared.place.Mark.{Mark}
use Rattle.cob_edit.specs.declared.place.Mark.TheVariants.{Currency, PlusOrMinus, SpaceOrMinus, CreditC, CreditR, DebitD, DebitB}
use Rattle.cob_edit.specs.declared.place.Fill.{Fill}
use Rattle.cob_edit.specs.declared.place.Fill.TheVariants.{Space, Asterisk}
use Rattle.cob_edit.specs.Places.{mark_byte, tells, fill_byte, is_digit, is_run_or_insertion, has_byte, is_fixed_sign, is_floating_sign}
use Rattle.cob_edit.specs.Editing.{region_start, region_end, place_at, digit_of, IsSuppressedTo, hidden, shown, cell, printed, empty_cell, has_stars, shows_nothing, IsText, shows_sign, FitsPlaces}
use Rattle.cob_edit.proofs.EditingLemmas.{region_bytes, region_run, region_inside}

-- ---- texts as the cells of places

abbrev pub places : (ℕ → EditedPlace → List ℕ) → ℕ → List EditedPlace → List ℕ
places f j [] = []
places f j (r ∷ rest) = f j r ++ places f (j + 1) rest

pub printed_places : (rs : List EditedPlace) (ds : List ℕ) (n : Bool) (k j : ℕ) (rest : List EditedPlace) → printed rs ds n k j rest ≡ places (λ i r. cell rs n k i r (digit_of rs ds i)) j rest
printed_places rs ds n k j [] = refl
printed_places rs ds n k j (r ∷ rest) = ap (λ xs. cell rs n k j r (digit_of rs ds j) ++ xs) (printed_places rs ds n k (j + 1) rest)

pub zero_places : (star : Bool) (j : ℕ) (rest : List EditedPlace) → flat_map (empty_cell star) rest ≡ places (λ i r. empty_cell star r) j rest
zero_places star j [] = refl
zero_places star j (r ∷ rest) = ap (λ xs. empty_cell star r ++ xs) (zero_places star (j + 1) rest)

-- two fronts of one length
fronts : (a b x y : List ℕ) → length a ≡ length b → a ++ x ≡ b ++ y → (a ≡ b) × (x ≡ y)
fronts [] [] x y e h = (refl, h)
fronts [] (d ∷ b) x y e h = absurd (omega arith)
fronts (c ∷ a) [] x y e h = absurd (omega arith)
fronts (c ∷ a) (d ∷ b) x y e h =
    let tails : a ++ x ≡ b ++ y = cc in
    let same : (a ≡ b) × (x ≡ y) = fronts a b x y (omega arith) tails in
    let front : a ≡ b = same.0 in
    (cc, same.1)

-- equal texts have equal cells
cells_same : (f g : ℕ → EditedPlace → List ℕ) (rest : List EditedPlace) (j : ℕ) → ((i : ℕ) → i < length rest → length (f (j + i) (get_or rest i (Inserted 0))) ≡ length (g (j + i) (get_or rest i (Inserted 0)))) → places f j rest ≡ places g j rest → (i : ℕ) → i < length rest → f (j + i) (get_or rest i (Inserted 0)) ≡ g (j + i) (get_or rest i (Inserted 0))
cells_same f g [] j len e i lt = elim lt [ ]
cells_same f g (r ∷ rest) j len e zero lt =
    let zero_is : j + 0 ≡ j = omega arith in
    let first : length (f j r) ≡ length (g j r) = rw zero_is at (len 0 lt) in
    rw zero_is (fronts (f j r) (g j r) (places f (j + 1) rest) (places g (j + 1) rest) first e).0
cells_same f g (r ∷ rest) j len e (suc i) lt =
    let zero_is : j + 0 ≡ j = omega arith in
    let first : length (f j r) ≡ length (g j r) = rw zero_is at (len 0 (omega arith)) in
    let move : (m : ℕ) → j + suc m ≡ j + 1 + m = λ m. omega arith in
    let tails : places f (j + 1) rest ≡ places g (j + 1) rest = (fronts (f j r) (g j r) (places f (j + 1) rest) (places g (j + 1) rest) first e).1 in
    rw (move i) (cells_same f g rest (j + 1) (λ m below. rw (← move m) (len (suc m) (omega arith))) tails i (omega arith))

-- ---- what a cell is

pub length-empty_cell : (star : Bool) (r : EditedPlace) → length (empty_cell star r) ≡ (if has_byte r then 1 else 0)
length-empty_cell star (Inserted b) = refl
length-empty_cell star Point = refl
length-empty_cell star Digit = refl
length-empty_cell star (Suppressed f) = refl
length-empty_cell star Floating = refl
length-empty_cell star (First m) = refl
length-empty_cell star (Fixed m) = refl
length-empty_cell star AssumedPoint = refl

-- a place from the cut on, or outside the region
pub cell_shown : (rs : List EditedPlace) (n : Bool) (k j d : ℕ) (r : EditedPlace) → (k ≤ j) ⊎ (j < region_start rs) → cell rs n k j r d ≡ shown r n d
cell_shown rs n k j d r outside = grind (arith, nat_tests)

pub cell_hidden : (rs : List EditedPlace) (n : Bool) (k j d : ℕ) (r : EditedPlace) → region_start rs ≤ j → j < k → cell rs n k j r d ≡ hidden (place_at rs (region_start rs)) n (j + 1 == k) ∷ []
cell_hidden rs n k j d r low high = grind (arith, nat_tests)

length-shown : (r : EditedPlace) (n : Bool) (d : ℕ) → length (shown r n d) ≡ (if has_byte r then 1 else 0)
length-shown (Inserted b) n d = refl
length-shown Point n d = refl
length-shown Digit n d = refl
length-shown (Suppressed f) n d = refl
length-shown Floating n d = refl
length-shown (First m) n d = refl
length-shown (Fixed m) n d = refl
length-shown AssumedPoint n d = refl

pub length-cell : (rs : List EditedPlace) (n : Bool) (k j d : ℕ) → k ≤ region_end rs → length (cell rs n k j (place_at rs j) d) ≡ (if has_byte (place_at rs j) then 1 else 0)
length-cell rs n k j d within =
    elim (cases_lt j (region_start rs)) [
      | inl before ↦ ap length (cell_shown rs n k j d (place_at rs j) (inr before)) ∙ length-shown (place_at rs j) n d
      | inr from ↦ elim (cases_lt j k) [
        | inl lt ↦
            let some : has_byte (place_at rs j) ≡ true = region_bytes rs j from (omega arith) in
            ap length (cell_hidden rs n k j d (place_at rs j) from lt) ∙ sym (ap (λ b. if b then 1 else 0) some)
        | inr after ↦ ap length (cell_shown rs n k j d (place_at rs j) (inl after)) ∙ length-shown (place_at rs j) n d
      ]
    ]

-- ---- marks

mark_small : (m : Mark) (n : Bool) → mark_byte m n < 240
mark_small Currency n = omega arith
mark_small PlusOrMinus true = omega arith
mark_small PlusOrMinus false = omega arith
mark_small SpaceOrMinus true = omega arith
mark_small SpaceOrMinus false = omega arith
mark_small CreditC true = omega arith
mark_small CreditC false = omega arith
mark_small CreditR true = omega arith
mark_small CreditR false = omega arith
mark_small DebitD true = omega arith
mark_small DebitD false = omega arith
mark_small DebitB true = omega arith
mark_small DebitB false = omega arith

fill_small : (f : Fill) → fill_byte f < 240
fill_small Space = omega arith
fill_small Asterisk = omega arith

-- a mark that tells the sign
told_differs : (m : Mark) → tells m ≡ true → mark_byte m true ≡ mark_byte m false → ⊥
told_differs Currency h e = let no : false ≡ true = h in absurd (cc)
told_differs PlusOrMinus h e = omega (arith, e)
told_differs SpaceOrMinus h e = omega (arith, e)
told_differs CreditC h e = omega (arith, e)
told_differs CreditR h e = omega (arith, e)
told_differs DebitD h e = omega (arith, e)
told_differs DebitB h e = omega (arith, e)

-- ---- where the sign is told

or_cases : (a b : Bool) → (a || b) ≡ true → (a ≡ true) ⊎ (b ≡ true)
or_cases true b h = inl refl
or_cases false b h = inr h

-- a sign in its place has a place
fixed_at : (ps : List EditedPlace) → list_any is_fixed_sign ps ≡ true → (j : ℕ) × (j < length ps) × (is_fixed_sign (place_at ps j) ≡ true)
fixed_at [] h = let no : false ≡ true = h in absurd (cc)
fixed_at (p ∷ ps) h = elim (or_cases (is_fixed_sign p) (list_any is_fixed_sign ps) h) [
  | inl here ↦ (0, omega arith, here)
  | inr later ↦ let at : (j : ℕ) × (j < length ps) × (is_fixed_sign (place_at ps j) ≡ true) = fixed_at ps later in (suc at.0, omega (arith, at.1), at.2)
]

-- the first of a floating sign is of the region that it begins
first_in : (ps : List EditedPlace) → is_floating_sign (get_or ps 0 (Inserted 0)) ≡ true → 0 < prefix_len is_run_or_insertion ps
first_in [] h = let no : false ≡ true = h in absurd (cc)
first_in (Inserted b ∷ ps) h = let no : false ≡ true = h in absurd (cc)
first_in (Point ∷ ps) h = let no : false ≡ true = h in absurd (cc)
first_in (Digit ∷ ps) h = let no : false ≡ true = h in absurd (cc)
first_in (Suppressed f ∷ ps) h = let no : false ≡ true = h in absurd (cc)
first_in (Floating ∷ ps) h = let no : false ≡ true = h in absurd (cc)
first_in (First m ∷ ps) h = omega arith
first_in (Fixed m ∷ ps) h = let no : false ≡ true = h in absurd (cc)
first_in (AssumedPoint ∷ ps) h = let no : false ≡ true = h in absurd (cc)

region_begins : (ps : List EditedPlace) → is_floating_sign (place_at ps (region_start ps)) ≡ true → region_start ps < region_end ps
region_begins ps h =
    let s : ℕ = region_start ps in
    let place : s + 0 ≡ s = omega arith in
    let front : get_or (drop s ps) 0 (Inserted 0) ≡ place_at ps s = get_or-drop s ps 0 (Inserted 0) ∙ ap (λ i. place_at ps i) place in
    let some : 0 < prefix_len is_run_or_insertion (drop s ps) = first_in (drop s ps) (ap is_floating_sign front ∙ h) in
    omega arith

-- ---- two texts

module _ (rs : List EditedPlace) where
  pub hidden_small : (n last : Bool) → hidden (place_at rs (region_start rs)) n last < 240
  hidden_small n last = small (place_at rs (region_start rs)) n last
    where
      small : (p : EditedPlace) (n last : Bool) → hidden p n last < 240
      small (Inserted b) n last = omega arith
      small Point n last = omega arith
      small Digit n last = omega arith
      small (Suppressed f) n last = fill_small f
      small Floating n last = omega arith
      small (First m) n true = mark_small m n
      small (First m) n false = omega arith
      small (Fixed m) n last = omega arith
      small AssumedPoint n last = omega arith

  -- equal texts that are not blank have equal cells
  same_cells : (ds es : List ℕ) (m n : Bool) (k l : ℕ) → k ≤ region_end rs → l ≤ region_end rs → printed rs ds m k 0 rs ≡ printed rs es n l 0 rs → (j : ℕ) → j < length rs → cell rs m k j (place_at rs j) (digit_of rs ds j) ≡ cell rs n l j (place_at rs j) (digit_of rs es j)
  same_cells ds es m n k l kin lin e j lt =
      rw (zero-add j) at (cells_same (λ i r. cell rs m k i r (digit_of rs ds i)) (λ i r. cell rs n l i r (digit_of rs es i)) rs 0
      (λ i below. rw (zero-add i) (length-cell rs m k i (digit_of rs ds i) kin ∙ sym (length-cell rs n l i (digit_of rs es i) lin)))
      (sym (printed_places rs ds m k 0 rs) ∙ e ∙ printed_places rs es n l 0 rs)
      j lt)

  -- a blank text beside another
  empty_cells : (es : List ℕ) (n star : Bool) (l : ℕ) → l ≤ region_end rs → flat_map (empty_cell star) rs ≡ printed rs es n l 0 rs → (j : ℕ) → j < length rs → empty_cell star (place_at rs j) ≡ cell rs n l j (place_at rs j) (digit_of rs es j)
  empty_cells es n star l lin e j lt =
      rw (zero-add j) at (cells_same (λ i r. empty_cell star r) (λ i r. cell rs n l i r (digit_of rs es i)) rs 0
      (λ i below. rw (zero-add i) (length-empty_cell star (place_at rs i) ∙ sym (length-cell rs n l i (digit_of rs es i) lin)))
      (sym (zero_places star 0 rs) ∙ e ∙ printed_places rs es n l 0 rs)
      j lt)

single : (a b : ℕ) → a ∷ [] ≡ b ∷ [] → a ≡ b
single a b e = cc

pub digit_cell : (r : EditedPlace) (n : Bool) (d : ℕ) → is_digit r ≡ true → shown r n d ≡ (d + 240) ∷ []
digit_cell (Inserted b) n d h = absurd (cc)
digit_cell Point n d h = absurd (cc)
digit_cell Digit n d h = refl
digit_cell (Suppressed f) n d h = refl
digit_cell Floating n d h = refl
digit_cell (First m) n d h = absurd (cc)
digit_cell (Fixed m) n d h = absurd (cc)
digit_cell AssumedPoint n d h = absurd (cc)

zero_small : (star : Bool) (r : EditedPlace) (d : ℕ) → 0 < d → empty_cell star r ≡ (d + 240) ∷ [] → ⊥
zero_small true (Inserted b) d p e = omega (arith, single 92 (d + 240) e)
zero_small false (Inserted b) d p e = omega (arith, single 64 (d + 240) e)
zero_small true Point d p e = omega (arith, single 75 (d + 240) e)
zero_small false Point d p e = omega (arith, single 64 (d + 240) e)
zero_small true Digit d p e = omega (arith, single 92 (d + 240) e)
zero_small false Digit d p e = omega (arith, single 64 (d + 240) e)
zero_small true (Suppressed f) d p e = omega (arith, single 92 (d + 240) e)
zero_small false (Suppressed f) d p e = omega (arith, single 64 (d + 240) e)
zero_small true Floating d p e = omega (arith, single 92 (d + 240) e)
zero_small false Floating d p e = omega (arith, single 64 (d + 240) e)
zero_small true (First m) d p e = omega (arith, single 92 (d + 240) e)
zero_small false (First m) d p e = omega (arith, single 64 (d + 240) e)
zero_small true (Fixed m) d p e = omega (arith, single 92 (d + 240) e)
zero_small false (Fixed m) d p e = omega (arith, single 64 (d + 240) e)
zero_small star AssumedPoint d p e = absurd (cc)

-- the place of a digit
place_of : (rs : List EditedPlace) (i : ℕ) → i < count_by is_digit rs → (j : ℕ) × (j < length rs) × (is_digit (place_at rs j) ≡ true) × (count_by is_digit (take j rs) ≡ i)
place_of [] i lt = elim lt [ ]
place_of (r ∷ rs) i lt = first (is_digit r) refl i lt (place_of rs)
  where
    first : (b : Bool) → is_digit r ≡ b → (i : ℕ) → i < count_by is_digit (r ∷ rs) → ((i : ℕ) → i < count_by is_digit rs → (j : ℕ) × (j < length rs) × (is_digit (place_at rs j) ≡ true) × (count_by is_digit (take j rs) ≡ i)) → (j : ℕ) × (j < length (r ∷ rs)) × (is_digit (place_at (r ∷ rs) j) ≡ true) × (count_by is_digit (take j (r ∷ rs)) ≡ i)
    first true e zero lt rest = (0, omega arith, e, refl)
    first true e (suc i) lt rest =
        let split : count_by is_digit (r ∷ rs) ≡ 1 + count_by is_digit rs = sum_by-cons (λ x. cond (is_digit x) 1 0) r rs ∙ ap (λ b. cond b 1 0 + count_by is_digit rs) e in
        let p : (j : ℕ) × (j < length rs) × (is_digit (place_at rs j) ≡ true) × (count_by is_digit (take j rs) ≡ i) = rest i (omega arith) in
        let here : count_by is_digit (r ∷ take p.0 rs) ≡ 1 + count_by is_digit (take p.0 rs) = sum_by-cons (λ x. cond (is_digit x) 1 0) r (take p.0 rs) ∙ ap (λ b. cond b 1 0 + count_by is_digit (take p.0 rs)) e in
        (suc p.0, omega (arith, p.1), p.2, omega (arith, here, p.3))
    first false e i lt rest =
        let split : count_by is_digit (r ∷ rs) ≡ 0 + count_by is_digit rs = sum_by-cons (λ x. cond (is_digit x) 1 0) r rs ∙ ap (λ b. cond b 1 0 + count_by is_digit rs) e in
        let p : (j : ℕ) × (j < length rs) × (is_digit (place_at rs j) ≡ true) × (count_by is_digit (take j rs) ≡ i) = rest i (omega arith) in
        let here : count_by is_digit (r ∷ take p.0 rs) ≡ 0 + count_by is_digit (take p.0 rs) = sum_by-cons (λ x. cond (is_digit x) 1 0) r (take p.0 rs) ∙ ap (λ b. cond b 1 0 + count_by is_digit (take p.0 rs)) e in
        (suc p.0, omega (arith, p.1), p.2, omega (arith, here, p.3))

suc_not_0 : (d : ℕ) → (suc d == 0) ≡ false
suc_not_0 d = grind (arith, nat_tests)

false_and : (b : Bool) → (false && b) ≡ true → ⊥
false_and b h = let no : false ≡ true = h in absurd (cc)

equal_test : (x y : ℕ) → x ≡ y → (x == y) ≡ true
equal_test x y e = grind (arith, nat_tests)

nonzero_at : (es : List ℕ) → list_all (λ d. d == 0) es ≡ false → (i : ℕ) × (i < length es) × (0 < get_or es i 0)
nonzero_at [] h = absurd (cc)
nonzero_at (zero ∷ es) h = let p : (i : ℕ) × (i < length es) × (0 < get_or es i 0) = nonzero_at es h in (suc p.0, omega (arith, p.1), p.2)
nonzero_at (suc d ∷ es) h = (0, omega arith, omega arith)

pub all_zero_at : (ds : List ℕ) → list_all (λ d. d == 0) ds ≡ true → (i : ℕ) → get_or ds i 0 ≡ 0
all_zero_at [] h i = refl
all_zero_at (zero ∷ ds) h zero = refl
all_zero_at (zero ∷ ds) h (suc i) = all_zero_at ds h i
all_zero_at (suc d ∷ ds) h i = let no : (false && list_all (λ x. x == 0) ds) ≡ true = rw (suc_not_0 d) at h in absurd (false_and (list_all (λ x. x == 0) ds) no)

-- ---- the law

module _ (rs : List EditedPlace) where
  abbrev CellsAgree : List ℕ → List ℕ → Bool → Bool → ℕ → ℕ → Type 0
  CellsAgree ds es m n k l = (j : ℕ) → j < length rs → cell rs m k j (place_at rs j) (digit_of rs ds j) ≡ cell rs n l j (place_at rs j) (digit_of rs es j)

  -- a cut that comes earlier shows a digit where the other hides it
  not_earlier : (ds es : List ℕ) (m n : Bool) (k l : ℕ) → IsSuppressedTo rs ds k → l ≤ region_end rs → k < l → cell rs m k k (place_at rs k) (digit_of rs ds k) ≡ cell rs n l k (place_at rs k) (digit_of rs es k) → ⊥
  not_earlier ds es m n k l cut lin lt e =
      elim cut.stop [
        | inl at_end ↦ omega arith
        | inr nonzero ↦
            let left : cell rs m k k (place_at rs k) (digit_of rs ds k) ≡ (digit_of rs ds k + 240) ∷ [] =
            cell_shown rs m k k (digit_of rs ds k) (place_at rs k) (inl (omega arith)) ∙ digit_cell (place_at rs k) m (digit_of rs ds k) nonzero.0
            in
            let right : cell rs n l k (place_at rs k) (digit_of rs es k) ≡ hidden (place_at rs (region_start rs)) n (k + 1 == l) ∷ [] = cell_hidden rs n l k (digit_of rs es k) (place_at rs k) cut.from lt in
            let both : digit_of rs ds k + 240 ≡ hidden (place_at rs (region_start rs)) n (k + 1 == l) = single _ _ (sym left ∙ e ∙ right) in
            omega (arith, hidden_small rs n (k + 1 == l))
      ]

  one_cut : (ds es : List ℕ) (m n : Bool) (k l : ℕ) → IsSuppressedTo rs ds k → IsSuppressedTo rs es l → CellsAgree ds es m n k l → k ≡ l
  one_cut ds es m n k l a b agree =
      let inside : region_end rs ≤ length rs = region_inside rs in
      elim (cases_lt k l) [
        | inl lt ↦ absurd (not_earlier ds es m n k l a b.to lt (agree k (omega (arith, b.to))))
        | inr ge ↦ elim (cases_lt l k) [ inl lt ↦ absurd (not_earlier es ds n m l k b a.to lt (sym (agree l (omega (arith, a.to))))) | inr le ↦ omega arith ]
      ]

  shown_same : (ds es : List ℕ) (m n : Bool) (k j : ℕ) → (k ≤ j) ⊎ (j < region_start rs) → is_digit (place_at rs j) ≡ true → cell rs m k j (place_at rs j) (digit_of rs ds j) ≡ cell rs n k j (place_at rs j) (digit_of rs es j) → digit_of rs ds j ≡ digit_of rs es j
  shown_same ds es m n k j outside is e =
      let left : cell rs m k j (place_at rs j) (digit_of rs ds j) ≡ (digit_of rs ds j + 240) ∷ [] = cell_shown rs m k j (digit_of rs ds j) (place_at rs j) outside ∙ digit_cell (place_at rs j) m (digit_of rs ds j) is in
      let right : cell rs n k j (place_at rs j) (digit_of rs es j) ≡ (digit_of rs es j + 240) ∷ [] = cell_shown rs n k j (digit_of rs es j) (place_at rs j) outside ∙ digit_cell (place_at rs j) n (digit_of rs es j) is in
      let both : digit_of rs ds j + 240 ≡ digit_of rs es j + 240 = single _ _ (sym left ∙ e ∙ right) in
      omega arith

  digits_same_at : (ds es : List ℕ) (m n : Bool) (k : ℕ) → IsSuppressedTo rs ds k → IsSuppressedTo rs es k → CellsAgree ds es m n k k → (j : ℕ) → j < length rs → is_digit (place_at rs j) ≡ true → digit_of rs ds j ≡ digit_of rs es j
  digits_same_at ds es m n k a b agree j lt is =
      elim (cases_lt j (region_start rs)) [
        | inl before ↦ shown_same ds es m n k j (inr before) is (agree j lt)
        | inr from ↦ elim (cases_lt j k) [
          | inl hid ↦ a.zeros j from hid is ∙ sym (b.zeros j from hid is)
          | inr after ↦ shown_same ds es m n k j (inl after) is (agree j lt)
        ]
      ]

  digits_same : (ds es : List ℕ) (m n : Bool) (k : ℕ) → length ds ≡ count_by is_digit rs → length es ≡ count_by is_digit rs → IsSuppressedTo rs ds k → IsSuppressedTo rs es k → CellsAgree ds es m n k k → ds ≡ es
  digits_same ds es m n k dn en a b agree =
      same_lists ds es (dn ∙ sym en) (λ i d lt.
      let p : (j : ℕ) × (j < length rs) × (is_digit (place_at rs j) ≡ true) × (count_by is_digit (take j rs) ≡ i) = place_of rs i (omega arith) in
      let here : digit_of rs ds p.0 ≡ digit_of rs es p.0 = digits_same_at ds es m n k a b agree p.0 p.1 p.2 in
      let first : get_or ds i 0 ≡ get_or es i 0 = rw p.3 at here in
      let inside : i < length es = omega arith in
      get_or_default ds i d 0 lt ∙ first ∙ get_or_default es i 0 d inside)

  -- a floating sign tells
  floating_told : (ds es : List ℕ) (k : ℕ) → IsSuppressedTo rs ds k → CellsAgree ds es true false k k → is_floating_sign (place_at rs (region_start rs)) ≡ true → ⊥
  floating_told ds es k a agree floats = by_place (place_at rs (region_start rs)) refl
    where
      by_place : (p : EditedPlace) → place_at rs (region_start rs) ≡ p → ⊥
      by_place (Inserted b) e = let no : false ≡ true = rw e at floats in absurd (cc)
      by_place Point e = let no : false ≡ true = rw e at floats in absurd (cc)
      by_place Digit e = let no : false ≡ true = rw e at floats in absurd (cc)
      by_place (Suppressed f) e = let no : false ≡ true = rw e at floats in absurd (cc)
      by_place Floating e = let no : false ≡ true = rw e at floats in absurd (cc)
      by_place (Fixed m) e = let no : false ≡ true = rw e at floats in absurd (cc)
      by_place AssumedPoint e = let no : false ≡ true = rw e at floats in absurd (cc)
      by_place (First m) start =
          let begins : region_start rs < region_end rs = region_begins rs floats in
          let inside : region_end rs ≤ length rs = region_inside rs in
          let later : region_start rs < k =
          elim a.stop [
            | inl at_end ↦ omega (arith, begins)
            | inr nonzero ↦ elim (cases_lt (region_start rs) k) [
              | inl less ↦ less
              | inr not_less ↦
                  let same : k ≡ region_start rs = omega (arith, a.from) in
                  let digit : is_digit (place_at rs (region_start rs)) ≡ true = rw same at nonzero.0 in
                  let no : false ≡ true = rw start at digit in
                  absurd (cc)
            ]
          ]
          in
          let i : ℕ = k - 1 in
          let last : (i + 1 == k) ≡ true = equal_test (i + 1) k (omega arith) in
          let left : cell rs true k i (place_at rs i) (digit_of rs ds i) ≡ mark_byte m true ∷ [] =
          cell_hidden rs true k i (digit_of rs ds i) (place_at rs i) (omega arith) (omega arith)
          ∙ ap (λ r. hidden r true (i + 1 == k) ∷ []) start ∙ ap (λ b. hidden (First m) true b ∷ []) last
          in
          let right : cell rs false k i (place_at rs i) (digit_of rs es i) ≡ mark_byte m false ∷ [] =
          cell_hidden rs false k i (digit_of rs es i) (place_at rs i) (omega arith) (omega arith)
          ∙ ap (λ r. hidden r false (i + 1 == k) ∷ []) start ∙ ap (λ b. hidden (First m) false b ∷ []) last
          in
          told_differs m (rw start at floats) (single (mark_byte m true) (mark_byte m false) (sym left ∙ agree i (omega (arith, a.to)) ∙ right))

  -- a sign in its place tells
  fixed_told : (ds es : List ℕ) (k : ℕ) → IsSuppressedTo rs ds k → CellsAgree ds es true false k k → (j : ℕ) → j < length rs → is_fixed_sign (place_at rs j) ≡ true → ⊥
  fixed_told ds es k a agree j lt sign = by_place (place_at rs j) refl
    where
      by_place : (p : EditedPlace) → place_at rs j ≡ p → ⊥
      by_place (Inserted b) e = let no : false ≡ true = rw e at sign in absurd (cc)
      by_place Point e = let no : false ≡ true = rw e at sign in absurd (cc)
      by_place Digit e = let no : false ≡ true = rw e at sign in absurd (cc)
      by_place (Suppressed f) e = let no : false ≡ true = rw e at sign in absurd (cc)
      by_place Floating e = let no : false ≡ true = rw e at sign in absurd (cc)
      by_place (First m) e = let no : false ≡ true = rw e at sign in absurd (cc)
      by_place AssumedPoint e = let no : false ≡ true = rw e at sign in absurd (cc)
      by_place (Fixed m) e =
          let outside : (k ≤ j) ⊎ (j < region_start rs) =
          elim (cases_lt j (region_start rs)) [
            | inl before ↦ inr before
            | inr from ↦ elim (cases_lt j (region_end rs)) [
              | inl in_region ↦ let no : false ≡ true = rw e at (region_run rs j from in_region) in absurd (cc)
              | inr after ↦ inl (omega (arith, a.to))
            ]
          ]
          in
          let left : cell rs true k j (place_at rs j) (digit_of rs ds j) ≡ mark_byte m true ∷ [] = cell_shown rs true k j (digit_of rs ds j) (place_at rs j) outside ∙ ap (λ r. shown r true (digit_of rs ds j)) e in
          let right : cell rs false k j (place_at rs j) (digit_of rs es j) ≡ mark_byte m false ∷ [] = cell_shown rs false k j (digit_of rs es j) (place_at rs j) outside ∙ ap (λ r. shown r false (digit_of rs es j)) e in
          told_differs m (rw e at sign) (single (mark_byte m true) (mark_byte m false) (sym left ∙ agree j lt ∙ right))

  -- a sign that shows differs
  sign_told : (ds es : List ℕ) (k : ℕ) → IsSuppressedTo rs ds k → CellsAgree ds es true false k k → shows_sign rs ≡ true → ⊥
  sign_told ds es k a agree shows =
      elim (or_cases (list_any is_fixed_sign rs) (is_floating_sign (place_at rs (region_start rs))) shows) [
        | inl some ↦ let at : (j : ℕ) × (j < length rs) × (is_fixed_sign (place_at rs j) ≡ true) = fixed_at rs some in fixed_told ds es k a agree at.0 at.1 at.2
        | inr floats ↦ floating_told ds es k a agree floats
      ]

  -- two texts that are not blank
  both_shown : (ds es : List ℕ) (m n : Bool) (k l : ℕ) (bytes : List ℕ) → FitsPlaces rs m ds → FitsPlaces rs n es → IsSuppressedTo rs ds k → IsSuppressedTo rs es l → bytes ≡ printed rs ds m k 0 rs → bytes ≡ printed rs es n l 0 rs → (m ≡ n) × (ds ≡ es)
  both_shown ds es m n k l bytes dr er a b p q =
      let agree : CellsAgree ds es m n k l = same_cells rs ds es m n k l a.to b.to (sym p ∙ q) in
      let cut : l ≡ k = sym (one_cut ds es m n k l a b agree) in
      let same_cut : IsSuppressedTo rs es k = subst (λ i. IsSuppressedTo rs es i) cut b in
      let same_agree : CellsAgree ds es m n k k = subst (λ i. CellsAgree ds es m n k i) cut agree in
      (signs m n dr er same_agree a same_cut, digits_same ds es m n k dr.count er.count a same_cut same_agree)
    where
      signs : (m n : Bool) → FitsPlaces rs m ds → FitsPlaces rs n es → CellsAgree ds es m n k k → IsSuppressedTo rs ds k → IsSuppressedTo rs es k → m ≡ n
      signs true true dr er agree a b = refl
      signs false false dr er agree a b = refl
      signs true false dr er agree a b = absurd (sign_told ds es k a agree (dr.sign refl))
      signs false true dr er agree a b = absurd (sign_told es ds k b (λ j lt. sym (agree j lt)) (er.sign refl))

  -- a blank text is no other's
  blank_other : (es bytes : List ℕ) (n star : Bool) (l : ℕ) → FitsPlaces rs n es → list_all (λ d. d == 0) es ≡ false → IsSuppressedTo rs es l → bytes ≡ flat_map (empty_cell star) rs → bytes ≡ printed rs es n l 0 rs → ⊥
  blank_other es bytes n star l er nonzero b p q =
      let at : (i : ℕ) × (i < length es) × (0 < get_or es i 0) = nonzero_at es nonzero in
      let place : (j : ℕ) × (j < length rs) × (is_digit (place_at rs j) ≡ true) × (count_by is_digit (take j rs) ≡ at.0) = place_of rs at.0 (omega (arith, at.1, er.count)) in
      let j : ℕ = place.0 in
      let digit : 0 < digit_of rs es j = rw place.3 at.2 in
      let outside : (l ≤ j) ⊎ (j < region_start rs) =
      elim (cases_lt j (region_start rs)) [
        | inl before ↦ inr before
        | inr from ↦ elim (cases_lt j l) [ inl hid ↦ absurd (omega (arith, b.zeros j from hid place.2)) | inr after ↦ inl after ]
      ]
      in
      let cells : empty_cell star (place_at rs j) ≡ cell rs n l j (place_at rs j) (digit_of rs es j) = empty_cells rs es n star l b.to (sym p ∙ q) j place.1 in
      zero_small star (place_at rs j) (digit_of rs es j) digit (cells ∙ cell_shown rs n l j (digit_of rs es j) (place_at rs j) outside ∙ digit_cell (place_at rs j) n (digit_of rs es j) place.2)

  -- two blank texts
  both_blank : (ds es : List ℕ) (m n : Bool) → FitsPlaces rs m ds → FitsPlaces rs n es → list_all (λ d. d == 0) ds ≡ true → list_all (λ d. d == 0) es ≡ true → (m ≡ n) × (ds ≡ es)
  both_blank ds es m n dr er p q = (
    plus m ds dr p ∙ sym (plus n es er q),
    same_lists ds es (dr.count ∙ sym er.count) (λ i d lt.
        let inside : i < length es = omega (arith, dr.count, er.count) in
        get_or_default ds i d 0 lt ∙ all_zero_at ds p i ∙ sym (all_zero_at es q i) ∙ get_or_default es i 0 d inside),
  )
    where
      plus : (b : Bool) (xs : List ℕ) → FitsPlaces rs b xs → list_all (λ d. d == 0) xs ≡ true → b ≡ false
      plus false xs r z = refl
      plus true xs r z = let no : false ≡ true = sym (r.nonzero refl) ∙ z in absurd (cc)

pub and_left : (a b : Bool) → (a && b) ≡ true → a ≡ true
and_left true b h = refl
and_left false b h = absurd (false_and b h)

and_not : (a a' b : Bool) → (a && b) ≡ true → (a' && b) ≡ false → a' ≡ false
and_not a true b h k = let no : b ≡ false = k in absurd (ends a b h no)
  where
    ends : (a b : Bool) → (a && b) ≡ true → b ≡ false → ⊥
    ends true b h e = let no : false ≡ true = sym e ∙ h in absurd (cc)
    ends false b h e = false_and b h
and_not a false b h k = refl

-- each text is that of one sign and one list of digits at most
pub one_reading : (rs : List EditedPlace) (blank m n : Bool) (ds es bytes : List ℕ) → FitsPlaces rs m ds → FitsPlaces rs n es
    → IsText rs blank m ds bytes → IsText rs blank n es bytes → (m ≡ n) × (ds ≡ es)
one_reading rs blank m n ds es bytes dr er p q =
    go (shows_nothing rs blank ds) refl (shows_nothing rs blank es) refl p q
  where
    zeros : List ℕ → Bool
    zeros xs = list_all (λ d. d == 0) xs

    go : (b : Bool) → shows_nothing rs blank ds ≡ b → (c : Bool) → shows_nothing rs blank es ≡ c → MatchBool b (bytes ≡ flat_map (empty_cell (has_stars rs blank)) rs) ((k : ℕ) × IsSuppressedTo rs ds k × (bytes ≡ printed rs ds m k 0 rs)) → MatchBool c (bytes ≡ flat_map (empty_cell (has_stars rs blank)) rs) ((k : ℕ) × IsSuppressedTo rs es k × (bytes ≡ printed rs es n k 0 rs)) → (m ≡ n) × (ds ≡ es)
    go true be true ce p q = both_blank rs ds es m n dr er (and_left _ _ be) (and_left _ _ ce)
    go true be false ce p q = absurd (blank_other rs es bytes n (has_stars rs blank) q.0 er (and_not _ _ _ be ce) q.1 p q.2)
    go false be true ce p q = absurd (blank_other rs ds bytes m (has_stars rs blank) p.0 dr (and_not _ _ _ ce be) p.1 q p.2)
    go false be false ce p q = both_shown rs ds es m n p.0 q.0 bytes dr er p.1 q.1 p.2 q.2
