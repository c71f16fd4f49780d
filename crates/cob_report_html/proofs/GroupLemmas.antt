-- Single moves that join the same, counted and taken out one by one.
use Rattle.std.proofs.Common.{◌≡◌, ◌∙◌, ◌⊎◌, inl, inr, ◌==◌, ◌||◌, ◌&&◌, ◌<◌, ◌≤◌, ◌+◌, ℕ, zero, suc, Bool, true, false, cond, List, [], ◌∷◌, ◌++◌, length, take, get_or, Option, None, Some, refl, sym, ap, subst, true≢false, arith}
use Rattle.std.proofs.Math.ListN.{length-append}
use Rattle.std.proofs.lemmas.Bool.{cases_lt, eqb-true}
use Rattle.std.proofs.lemmas.List.{get_or-take, get_or_append_left, get_or_push, length-take-le}
use Rattle.std.proofs.lemmas.List.Folds.{list_any_at, list_any_more}
use Rattle.std.proofs.lemmas.List.Sums.{count_by-le-length, count_by_more_no, count_by_more_yes, sum_by-cons}
use Rattle.std.specs.Cmp.{nat_eq_equiv}
use Rattle.std.specs.List.{count_by, list_any}
use Rattle.std.specs.Option.{unwrap_or}
use Rattle.indexmap.specs.IndexMap.{IndexMap, UpdatesBy, get_by}
use Rattle.cob_report_html.specs.Ends.{IsCount, same, same_origin}
use Rattle.cob_report_html.specs.declared.ends.JoinedEnds.{JoinedEnds}
use Rattle.cob_report_html.specs.declared.ends.Origin.{Origin}
use Rattle.cob_report_html.specs.declared.ends.Origin.TheVariants.{Input, Output, Constant}
use Rattle.cob_report_html.specs.contracts.ends.JoinedEndsPartialEq.TheImpl as ends_eq
use Rattle.cob_report_html.specs.contracts.ends.OriginPartialEq.TheImpl as origin_eq

-- ---- what `==` says

-- as the derived one of the code
abbrev pub equal : JoinedEnds → JoinedEnds → Bool
equal a b = (ends_eq.ghosts).eq a b

origin_same : (a b : Origin) → (origin_eq.ghosts).eq a b ≡ same_origin a b
origin_same (Input a) (Input b) = refl
origin_same (Input a) (Output b) = refl
origin_same (Input a) (Constant b) = refl
origin_same (Output a) (Input b) = refl
origin_same (Output a) (Output b) = refl
origin_same (Output a) (Constant b) = refl
origin_same (Constant a) (Input b) = refl
origin_same (Constant a) (Output b) = refl
origin_same (Constant a) (Constant b) = refl

equal_at : (a b : JoinedEnds) → equal a b ≡ same a b
equal_at a b = ap (λ (o : Bool). o && (a.to == b.to)) (origin_same a.from b.from)

pub equal_same : equal ≡ same
equal_same = λ j a b. equal_at a b j

origin_symm : (a b : Origin) → same_origin a b ≡ same_origin b a
origin_symm (Input a) (Input b) = nat_eq_equiv.symm a b
origin_symm (Input a) (Output b) = refl
origin_symm (Input a) (Constant b) = refl
origin_symm (Output a) (Input b) = refl
origin_symm (Output a) (Output b) = nat_eq_equiv.symm a b
origin_symm (Output a) (Constant b) = refl
origin_symm (Constant a) (Input b) = refl
origin_symm (Constant a) (Output b) = refl
origin_symm (Constant a) (Constant b) = nat_eq_equiv.symm a b

origin_itself : (a : Origin) → same_origin a a ≡ true
origin_itself (Input a) = nat_eq_equiv.refl a
origin_itself (Output a) = nat_eq_equiv.refl a
origin_itself (Constant a) = nat_eq_equiv.refl a

same_symm : (a b : JoinedEnds) → same a b ≡ same b a
same_symm a b = ap (λ (o : Bool). o && (a.to == b.to)) (origin_symm a.from b.from) ∙ ap (λ (t : Bool). same_origin b.from a.from && t) (nat_eq_equiv.symm a.to b.to)

same_itself : (a : JoinedEnds) → same a a ≡ true
same_itself a = ap (λ (o : Bool). o && (a.to == a.to)) (origin_itself a.from) ∙ nat_eq_equiv.refl a.to

origin_one : (a b : Origin) → same_origin a b ≡ true → a ≡ b
origin_one (Input a) (Input b) is = ap Input (eqb-true a b is)
origin_one (Input a) (Output b) is = absurd (true≢false (sym is))
origin_one (Input a) (Constant b) is = absurd (true≢false (sym is))
origin_one (Output a) (Input b) is = absurd (true≢false (sym is))
origin_one (Output a) (Output b) is = ap Output (eqb-true a b is)
origin_one (Output a) (Constant b) is = absurd (true≢false (sym is))
origin_one (Constant a) (Input b) is = absurd (true≢false (sym is))
origin_one (Constant a) (Output b) is = absurd (true≢false (sym is))
origin_one (Constant a) (Constant b) is = ap Constant (eqb-true a b is)

both_true : (a b : Bool) → (a && b) ≡ true → (a ≡ true) × (b ≡ true)
both_true true true is = (refl, refl)
both_true true false is = absurd (true≢false (sym is))
both_true false b is = absurd (true≢false (sym is))

same_one : (a b : JoinedEnds) → same a b ≡ true → a ≡ b
same_one a b is =
    let (from, to) = both_true (same_origin a.from b.from) (a.to == b.to) is in
    let sent = origin_one a.from b.from from in
    let received = eqb-true a.to b.to to in
    λ j. record { from = sent j; to = received j }

-- ---- lists

none_of : {X : Type 0} (p : X → Bool) (xs : List X) (k : ℕ) (d : X) → list_any p xs ≡ false → k < length xs → p (get_or xs k d) ≡ false
none_of p xs k d none within = by (p (get_or xs k d)) refl
  where
    by : (b : Bool) → p (get_or xs k d) ≡ b → b ≡ false
    by true is = absurd (true≢false (sym (list_any_at p xs k d within is) ∙ none))
    by false is = refl

none_any : {X : Type 0} (p : X → Bool) (xs : List X) → ((k : ℕ) (d : X) → k < length xs → p (get_or xs k d) ≡ false) → list_any p xs ≡ false
none_any p [] each = refl
none_any p (x ∷ xs) each = ap (λ (b : Bool). b || list_any p xs) (each 0 x (omega arith)) ∙ none_any p xs (λ k d within. each (suc k) d (omega (arith, within)))

-- some passes, where one does
count_some : {X : Type 0} (p : X → Bool) (xs : List X) (i : ℕ) (d : X) → i < length xs → p (get_or xs i d) ≡ true → 0 < count_by p xs
count_some p [] i d within is = absurd (omega (arith, within))
count_some p (x ∷ xs) zero d within is =
    let first : ◌≡◌ {A = ℕ} (cond (p x) 1 0) 1 = ap (λ (b : Bool). cond b 1 0) is in
    omega (arith, sum_by-cons (λ y. cond (p y) 1 0) x xs, first)
count_some p (x ∷ xs) (suc i) d within is =
    let more : 0 < count_by p xs = count_some p xs i d (omega (arith, within)) is in
    omega (arith, sum_by-cons (λ y. cond (p y) 1 0) x xs, more)

-- ---- all counted

-- one more is counted
pub tally_more : (singles : List JoinedEnds) (i : ℕ) (d : JoinedEnds) (n : ℕ) (counts next : JoinedEnds → Option ℕ) → i < length singles → n ≡ unwrap_or (counts (get_or singles i d)) 0
    → ((q : JoinedEnds) → next q ≡ cond (same (get_or singles i d) q) (Some (n + 1)) (counts q))
    → ((q : JoinedEnds) → unwrap_or (counts q) 0 ≡ count_by (same q) (take i singles)) → (q : JoinedEnds) → unwrap_or (next q) 0 ≡ count_by (same q) (take (i + 1) singles)
tally_more singles i d n counts next within is updates so_far q = by (same (get_or singles i d) q) refl
  where
    one : JoinedEnds
    one = get_or singles i d

    by : (b : Bool) → same (get_or singles i d) q ≡ b → unwrap_or (next q) 0 ≡ count_by (same q) (take (i + 1) singles)
    by true here =
        ap (λ (o : Option ℕ). unwrap_or o 0) (updates q ∙ ap (λ (x : Bool). cond x (Some (n + 1)) (counts q)) here)
        ∙ ap (λ (k : ℕ). k + 1) (is ∙ so_far one ∙ ap (λ (e : JoinedEnds). count_by (same e) (take i singles)) (same_one one q here))
        ∙ sym (count_by_more_yes (same q) singles i d within (same_symm q one ∙ here))
    by false here =
        ap (λ (o : Option ℕ). unwrap_or o 0) (updates q ∙ ap (λ (x : Bool). cond x (Some (n + 1)) (counts q)) here)
        ∙ so_far q ∙ sym (count_by_more_no (same q) singles i d within (same_symm q one ∙ here))

-- ---- one by one

-- of so many single moves each has its count, and the counts of the others are left
pub record SoFar (singles : List JoinedEnds) (i : ℕ) (counts : List (Option ℕ)) (left : JoinedEnds → Option ℕ) : Type 0 where
  pub many : length counts ≡ i
  pub each : (at : ℕ) → at < i → IsCount singles at (get_or counts at None)
  pub taken : (q : JoinedEnds) → list_any (same q) (take i singles) ≡ true → left q ≡ None
  pub others : (q : JoinedEnds) → list_any (same q) (take i singles) ≡ false → unwrap_or (left q) 0 ≡ count_by (same q) singles

-- the count of the next one
count_next : (singles : List JoinedEnds) (i : ℕ) (d : JoinedEnds) (r : Option ℕ) (left : JoinedEnds → Option ℕ) → i < length singles → r ≡ left (get_or singles i d)
    → ((q : JoinedEnds) → list_any (same q) (take i singles) ≡ true → left q ≡ None)
    → ((q : JoinedEnds) → list_any (same q) (take i singles) ≡ false → unwrap_or (left q) 0 ≡ count_by (same q) singles) → IsCount singles i r
count_next singles i d None left within is taken others = λ first.
    let one = get_or singles i d in
    let none : list_any (same one) (take i singles) ≡ false = none_any (same one) (take i singles) (λ k e below.
    let low : k < i = omega (arith, below, length-take-le i singles (omega (arith, within))) in
    ap (same one) (get_or-take i singles k e low) ∙ subst (λ (x : JoinedEnds). same x (get_or singles k e) ≡ false) (at_any singles i e d within) (first.none k e low)) in
    let zero_count : 0 ≡ count_by (same one) singles = ap (λ (o : Option ℕ). unwrap_or o 0) is ∙ others one none in
    absurd (omega (arith, zero_count, count_some (same one) singles i d within (same_itself one)))
  where
    at_any : (xs : List JoinedEnds) (n : ℕ) (a b : JoinedEnds) → n < length xs → get_or xs n a ≡ get_or xs n b
    at_any [] n a b low = absurd (omega (arith, low))
    at_any (x ∷ xs) zero a b low = refl
    at_any (x ∷ xs) (suc n) a b low = at_any xs n a b (omega (arith, low))
count_next singles i d (Some count) left within is taken others = by (list_any (same (get_or singles i d)) (take i singles)) refl
  where
    some_none : (o : Option ℕ) → Some count ≡ o → o ≡ None → ⊥
    some_none o a b = true≢false (ap (λ (x : Option ℕ). is_there x) (a ∙ b))
      where
        is_there : Option ℕ → Bool
        is_there None = false
        is_there (Some n) = true

    at_any : (xs : List JoinedEnds) (n : ℕ) (a b : JoinedEnds) → n < length xs → get_or xs n a ≡ get_or xs n b
    at_any [] n a b low = absurd (omega (arith, low))
    at_any (x ∷ xs) zero a b low = refl
    at_any (x ∷ xs) (suc n) a b low = at_any xs n a b (omega (arith, low))

    by : (b : Bool) → list_any (same (get_or singles i d)) (take i singles) ≡ b → IsCount singles i (Some count)
    by true there = absurd (some_none (left (get_or singles i d)) is (taken (get_or singles i d) there))
    by false none = (
      record {
        none = λ k e low. subst (λ (x : JoinedEnds). same x (get_or singles k e) ≡ false) (at_any singles i d e within)
            (ap (same (get_or singles i d)) (sym (get_or-take i singles k e low))
            ∙ none_of (same (get_or singles i d)) (take i singles) k e none (omega (arith, low, length-take-le i singles (omega (arith, within)))));
      },
      λ e. ap (λ (o : Option ℕ). unwrap_or o 0) is ∙ others (get_or singles i d) none
          ∙ ap (λ (x : JoinedEnds). count_by (same x) singles) (at_any singles i d e within),
    )

pub so_far_more : (singles : List JoinedEnds) (i : ℕ) (d : JoinedEnds) (counts : List (Option ℕ)) (r : Option ℕ) (left next : JoinedEnds → Option ℕ) → i < length singles
    → r ≡ left (get_or singles i d) → ((q : JoinedEnds) → next q ≡ cond (same (get_or singles i d) q) None (left q)) → SoFar singles i counts left
    → SoFar singles (i + 1) (counts ++ r ∷ []) next
so_far_more singles i d counts r left next within is updates so_far = record {
  many = omega (arith, length-append counts (r ∷ []), so_far.many);
  each = λ at below. each at below (cases_lt at i);
  taken = λ q there. taken q (same (get_or singles i d) q) refl (list_any (same q) (take i singles)) refl there;
  others = λ q none. others q (same (get_or singles i d) q) refl (list_any (same q) (take i singles)) refl none;
}
  where
    each : (at : ℕ) → at < i + 1 → (at < i) ⊎ (i ≤ at) → IsCount singles at (get_or (counts ++ r ∷ []) at None)
    each at below (inl low) =
        subst (λ (o : Option ℕ). IsCount singles at o) (sym (get_or_append_left counts (r ∷ []) None at (omega (arith, low, so_far.many)))) (so_far.each at low)
    each at below (inr high) =
        subst (λ (n : ℕ). IsCount singles n (get_or (counts ++ r ∷ []) n None)) (sym (same_place at below high))
        (subst (λ (o : Option ℕ). IsCount singles i o) (sym (get_or_push counts r None i so_far.many)) (count_next singles i d r left within is so_far.taken so_far.others))
      where
        same_place : (n : ℕ) → n < i + 1 → i ≤ n → n ≡ i
        same_place n low up = omega (arith, low, up)

    now : (q : JoinedEnds) (b here : Bool) → same (get_or singles i d) q ≡ b → list_any (same q) (take i singles) ≡ here → list_any (same q) (take (i + 1) singles) ≡ (here || b)
    now q b here one before = list_any_more (same q) singles i d within ∙ ap (λ (x : Bool). x || same q (get_or singles i d)) before
        ∙ ap (λ (x : Bool). here || x) (same_symm q (get_or singles i d) ∙ one)

    taken : (q : JoinedEnds) (b : Bool) → same (get_or singles i d) q ≡ b → (here : Bool) → list_any (same q) (take i singles) ≡ here
        → list_any (same q) (take (i + 1) singles) ≡ true → next q ≡ None
    taken q true one here before there = updates q ∙ ap (λ (x : Bool). cond x None (left q)) one
    taken q false one true before there = updates q ∙ ap (λ (x : Bool). cond x None (left q)) one ∙ so_far.taken q before
    taken q false one false before there = absurd (true≢false (sym there ∙ now q false false one before))

    others : (q : JoinedEnds) (b : Bool) → same (get_or singles i d) q ≡ b → (here : Bool) → list_any (same q) (take i singles) ≡ here
        → list_any (same q) (take (i + 1) singles) ≡ false → unwrap_or (next q) 0 ≡ count_by (same q) singles
    others q true one true before none = absurd (true≢false (sym (now q true true one before) ∙ none))
    others q true one false before none = absurd (true≢false (sym (now q true false one before) ∙ none))
    others q false one true before none = absurd (true≢false (sym (now q false true one before) ∙ none))
    others q false one false before none =
        ap (λ (o : Option ℕ). unwrap_or o 0) (updates q ∙ ap (λ (x : Bool). cond x None (left q)) one) ∙ so_far.others q before

-- ---- over the map of the code

-- what a map has at a key, by either word for equal keys
at_same : {S : Type 0} (m : IndexMap JoinedEnds ℕ S) (e : JoinedEnds) (o : Option ℕ) → o ≡ get_by (equal e) m → o ≡ get_by (same e) m
at_same m e o is = subst (λ (E : JoinedEnds → JoinedEnds → Bool). o ≡ get_by (E e) m) equal_same is

updates_same : {S : Type 0} (m n : IndexMap JoinedEnds ℕ S) (e : JoinedEnds) (w : Option ℕ) → UpdatesBy equal (equal e) m n w
    → (q : JoinedEnds) → get_by (same q) n ≡ cond (same e q) w (get_by (same q) m)
updates_same m n e w updates = subst (λ (E : JoinedEnds → JoinedEnds → Bool). (q : JoinedEnds) → get_by (E q) n ≡ cond (E e q) w (get_by (E q) m)) equal_same updates.0

-- how many were counted so far is no more than the moves
pub tally_small : {S : Type 0} (singles : List JoinedEnds) (i : ℕ) (d : JoinedEnds) (n : ℕ) (o : Option ℕ) (m : IndexMap JoinedEnds ℕ S) → i < length singles
    → o ≡ get_by (equal (get_or singles i d)) m → n ≡ unwrap_or o 0
    → ((q : JoinedEnds) → unwrap_or (get_by (same q) m) 0 ≡ count_by (same q) (take i singles)) → n ≤ i
tally_small singles i d n o m within there is so_far =
    let all = so_far (get_or singles i d) in
    let at : unwrap_or o 0 ≡ unwrap_or (get_by (same (get_or singles i d)) m) 0 = ap (λ (x : Option ℕ). unwrap_or x 0) (at_same m (get_or singles i d) o there) in
    omega (arith, is, at, all, count_by-le-length (same (get_or singles i d)) (take i singles), length-take-le i singles (omega (arith, within)))

pub tally_step : {S : Type 0} (singles : List JoinedEnds) (i : ℕ) (d : JoinedEnds) (n : ℕ) (o : Option ℕ) (m next : IndexMap JoinedEnds ℕ S) → i < length singles
    → o ≡ get_by (equal (get_or singles i d)) m → n ≡ unwrap_or o 0 → UpdatesBy equal (equal (get_or singles i d)) m next (Some (n + 1))
    → ((q : JoinedEnds) → unwrap_or (get_by (same q) m) 0 ≡ count_by (same q) (take i singles))
    → (q : JoinedEnds) → unwrap_or (get_by (same q) next) 0 ≡ count_by (same q) (take (i + 1) singles)
tally_step singles i d n o m next within there is updates so_far =
    let one = get_or singles i d in
    tally_more singles i d n (λ q. get_by (same q) m) (λ q. get_by (same q) next) within (is ∙ ap (λ (x : Option ℕ). unwrap_or x 0) (at_same m one o there))
    (updates_same m next one (Some (n + 1)) updates) so_far

pub taken_step : {S : Type 0} (singles : List JoinedEnds) (i : ℕ) (d : JoinedEnds) (counts pushed : List (Option ℕ)) (r : Option ℕ) (m next : IndexMap JoinedEnds ℕ S) → i < length singles
    → r ≡ get_by (equal (get_or singles i d)) m → UpdatesBy equal (equal (get_or singles i d)) m next None → pushed ≡ counts ++ r ∷ []
    → SoFar singles i counts (λ q. get_by (same q) m) → SoFar singles (i + 1) pushed (λ q. get_by (same q) next)
taken_step singles i d counts pushed r m next within there updates push so_far =
    let one = get_or singles i d in
    subst (λ (l : List (Option ℕ)). SoFar singles (i + 1) l (λ q. get_by (same q) next)) (sym push)
    (so_far_more singles i d counts r (λ q. get_by (same q) m) (λ q. get_by (same q) next) within (at_same m one r there) (updates_same m next one None updates) so_far)
