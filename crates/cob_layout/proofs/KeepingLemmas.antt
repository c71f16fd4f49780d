-- Tables taken one after another, some of whose counts are kept.
use Rattle.std.proofs.Common.{◌≡◌, ℕ, ◌+◌, ◌<◌, ◌≤◌, min, Bool, true, false, List, length, get_or, drop, Option, Some, None, refl, sym, ap, subst, ◌∙◌, arith, inl, inr, Ok, Err, Result}
use Rattle.std.specs.Prelude.{MatchBool, slice_set}
use Rattle.std.proofs.lemmas.List.{drop_all, drop_more, get_or-map, length-map}
use Rattle.cob_copybook_tree.specs.Forests.{Forest}
use Rattle.cob_copybook_tree.specs.Nodes.{Resolved}
use Rattle.cob_layout_places.specs.declared.counts.CountFault.{CountFault}
use Rattle.cob_layout_places.specs.declared.varying.Table.{Table}
use Rattle.cob_layout_places.specs.Counts.{tables_of}
use Rattle.cob_layout.specs.Counting.{greatest_counts}
use Rattle.cob_layout.specs.declared.counts.StoredCount.{StoredCount}
use Rattle.cob_layout.specs.Kept.{IsReadOne, TakenAnew, TakenBy, first_kept, kept_number, kept_numbers, others_kept}

-- whatever the tables from place i on come to now, all come to from the counts before; m counts were read so far
abbrev pub Onward : Forest Resolved → List ℕ → (Table → Bool) → List Table → List (Option ℕ) → List ℕ → ℕ → List ℕ → ℕ → Type 0
Onward t bytes read xs ks before i now m = (r : Result (List ℕ) CountFault) (n : ℕ) → TakenAnew t bytes read (drop i xs) (drop i ks) now r n → TakenAnew t bytes read xs ks before r (m + n)

-- with the number of counts that were read
abbrev pub Counted : Forest Resolved → List ℕ → (Table → Bool) → List Table → List (Option ℕ) → List ℕ → ℕ → ℕ → List ℕ → ℕ → Type 0
Counted t bytes read xs ks before reads i now so = (m : ℕ) × (so ≡ min (reads + m) 18446744073709551615) × Onward t bytes read xs ks before i now m

pub yes_of : (b : Bool) (A B : Type 0) → b ≡ true → A → MatchBool b A B
yes_of true A B e a = a
yes_of false A B e a = absurd (cc)

pub no_of : (b : Bool) (A B : Type 0) → b ≡ false → B → MatchBool b A B
no_of false A B e a = a
no_of true A B e a = absurd (cc)

first_of : (ks : List (Option ℕ)) (i : ℕ) (d : Option ℕ) → i < length ks → first_kept (drop i ks) ≡ get_or ks i d
first_of ks i d lt = ap first_kept (drop_more ks i d lt)

rest_of : (ks : List (Option ℕ)) (i : ℕ) (d : Option ℕ) → i < length ks → others_kept (drop i ks) ≡ drop (i + 1) ks
rest_of ks i d lt = ap others_kept (drop_more ks i d lt)

-- the tables from a place on, opened
opened : (t : Forest Resolved) (bytes : List ℕ) (read : Table → Bool) (xs : List Table) (ks : List (Option ℕ)) (i : ℕ) (d : Table) (f : Option ℕ) (now : List ℕ) (r : Result (List ℕ) CountFault) (n : ℕ)
    → i < length xs → i < length ks
    → MatchBool (read (get_or xs i d)) (TakenBy t bytes (get_or xs i d) (get_or ks i f) now r n (λ c m. TakenAnew t bytes read (drop (i + 1) xs) (drop (i + 1) ks) c r m))
    (TakenAnew t bytes read (drop (i + 1) xs) (drop (i + 1) ks) now r n)
    → TakenAnew t bytes read (drop i xs) (drop i ks) now r n
opened t bytes read xs ks i d f now r n lt below h =
    subst (λ (ys : List Table). TakenAnew t bytes read ys (drop i ks) now r n) (sym (drop_more xs i d lt))
    (subst (λ (js : List (Option ℕ)). MatchBool (read (get_or xs i d)) (TakenBy t bytes (get_or xs i d) (first_kept (drop i ks)) now r n (λ c m. TakenAnew t bytes read (drop (i + 1) xs) js c r m)) (TakenAnew t bytes read (drop (i + 1) xs) js now r n)) (sym (rest_of ks i f below))
    (subst (λ (k : Option ℕ). MatchBool (read (get_or xs i d)) (TakenBy t bytes (get_or xs i d) k now r n (λ c m. TakenAnew t bytes read (drop (i + 1) xs) (drop (i + 1) ks) c r m)) (TakenAnew t bytes read (drop (i + 1) xs) (drop (i + 1) ks) now r n)) (sym (first_of ks i f below)) h))

by_one : (t : Forest Resolved) (bytes : List ℕ) (x : Table) (k : Option ℕ) (now : List ℕ) (v n m : ℕ) (r : Result (List ℕ) CountFault) (others : List ℕ → ℕ → Type 0)
    → IsReadOne t bytes x k now (Ok v) n → others (slice_set now x.number v) m → TakenBy t bytes x k now r (n + m) others
by_one t bytes x (Some w) now v n m r others (same, none) h =
    let so : m ≡ n + m = omega (arith, none) in
    subst (λ (j : ℕ). others (slice_set now x.number w) j) so (subst (λ (u : ℕ). others (slice_set now x.number u) m) same h)
by_one t bytes x None now v n m r others (is, one) h = inl (v, m, is, h, omega (arith, one))

fault_of : (t : Forest Resolved) (bytes : List ℕ) (x : Table) (k : Option ℕ) (now : List ℕ) (e : CountFault) (n : ℕ) (others : List ℕ → ℕ → Type 0)
    → IsReadOne t bytes x k now (Err e) n → TakenBy t bytes x k now (Err e) n others
fault_of t bytes x (Some w) now e n others h = absurd h
fault_of t bytes x None now e n others (is, one) = inr (e, is, refl, one)

more_reads : (a m n k so new : ℕ) → so ≡ min (a + m) k → new ≡ min (so + n) k → new ≡ min (a + (m + n)) k
more_reads a m n k so new h g = omega (arith, h, g)

pub counted_none : (t : Forest Resolved) (bytes : List ℕ) (read : Table → Bool) (xs : List Table) (ks : List (Option ℕ)) (before : List ℕ) (reads : ℕ) → reads < 18446744073709551616 → Counted t bytes read xs ks before reads 0 before reads
counted_none t bytes read xs ks before reads fits = (0, omega (arith, fits), λ r n h. subst (λ (k : ℕ). TakenAnew t bytes read xs ks before r k) (zero_more n) h)
  where
    zero_more : (n : ℕ) → n ≡ 0 + n
    zero_more n = omega arith

-- a table's count was taken
pub counted_more : (t : Forest Resolved) (bytes : List ℕ) (read : Table → Bool) (xs : List Table) (ks : List (Option ℕ)) (before : List ℕ) (reads i : ℕ) (d : Table) (f : Option ℕ) (now : List ℕ) (so new v : ℕ)
    → i < length xs → i < length ks → read (get_or xs i d) ≡ true
    → (n : ℕ) × IsReadOne t bytes (get_or xs i d) (get_or ks i f) now (Ok v) n × (new ≡ min (so + n) 18446744073709551615)
    → Counted t bytes read xs ks before reads i now so → Counted t bytes read xs ks before reads (i + 1) (slice_set now (get_or xs i d).number v) new
counted_more t bytes read xs ks before reads i d f now so new v lt below reads_it (n, one, sum) (m, is, onward) = (
  m + n,
  more_reads reads m n 18446744073709551615 so new is sum,
  λ r k h.
      (let here = onward r (n + k) (opened t bytes read xs ks i d f now r (n + k) lt below
      (yes_of (read (get_or xs i d)) (TakenBy t bytes (get_or xs i d) (get_or ks i f) now r (n + k) (λ c j. TakenAnew t bytes read (drop (i + 1) xs) (drop (i + 1) ks) c r j)) (TakenAnew t bytes read (drop (i + 1) xs) (drop (i + 1) ks) now r (n + k)) reads_it
      (by_one t bytes (get_or xs i d) (get_or ks i f) now v n k r (λ c j. TakenAnew t bytes read (drop (i + 1) xs) (drop (i + 1) ks) c r j) one h))) in
      subst (λ (j : ℕ). TakenAnew t bytes read xs ks before r j) (assoc m n k) here),
)
  where
    assoc : (a b c : ℕ) → a + (b + c) ≡ a + b + c
    assoc a b c = omega arith

-- the number of a count that is kept, among those of all
pub known_at : (t : Forest Resolved) (bytes : List ℕ) (x : Table) (ks : List (Option StoredCount)) (i : ℕ) (known : Option ℕ) (c : List ℕ) (r : Result ℕ CountFault) (so new : ℕ)
    → i < length ks → known ≡ kept_number (get_or ks i None)
    → (n : ℕ) × IsReadOne t bytes x known c r n × (new ≡ min (so + n) 18446744073709551615)
    → (n : ℕ) × IsReadOne t bytes x (get_or (kept_numbers ks) i None) c r n × (new ≡ min (so + n) 18446744073709551615)
known_at t bytes x ks i known c r so new lt e h =
    subst (λ (k : Option ℕ). (n : ℕ) × IsReadOne t bytes x k c r n × (new ≡ min (so + n) 18446744073709551615)) (e ∙ sym (get_or-map kept_number ks i None None lt)) h

pub below_numbers : (ks : List (Option StoredCount)) (i : ℕ) → i < length ks → i < length (kept_numbers ks)
below_numbers ks i lt = omega (arith, lt, length-map ks kept_number)

-- a table isn't read
pub counted_skips : (t : Forest Resolved) (bytes : List ℕ) (read : Table → Bool) (xs : List Table) (ks : List (Option ℕ)) (before : List ℕ) (reads i : ℕ) (d : Table) (f : Option ℕ) (now : List ℕ) (so : ℕ)
    → i < length xs → i < length ks → read (get_or xs i d) ≡ false → Counted t bytes read xs ks before reads i now so → Counted t bytes read xs ks before reads (i + 1) now so
counted_skips t bytes read xs ks before reads i d f now so lt below skips (m, is, onward) = (
  m,
  is,
  λ r k h. onward r k (opened t bytes read xs ks i d f now r k lt below
      (no_of (read (get_or xs i d)) (TakenBy t bytes (get_or xs i d) (get_or ks i f) now r k (λ c j. TakenAnew t bytes read (drop (i + 1) xs) (drop (i + 1) ks) c r j)) (TakenAnew t bytes read (drop (i + 1) xs) (drop (i + 1) ks) now r k) skips h)),
)

-- a count was refused
pub counted_fault : (t : Forest Resolved) (bytes : List ℕ) (read : Table → Bool) (xs : List Table) (ks : List (Option ℕ)) (before : List ℕ) (reads i : ℕ) (d : Table) (f : Option ℕ) (now : List ℕ) (so new : ℕ) (e : CountFault)
    → i < length xs → i < length ks → read (get_or xs i d) ≡ true
    → (n : ℕ) × IsReadOne t bytes (get_or xs i d) (get_or ks i f) now (Err e) n × (new ≡ min (so + n) 18446744073709551615)
    → Counted t bytes read xs ks before reads i now so
    → (n : ℕ) × TakenAnew t bytes read xs ks before (Err e) n × (new ≡ min (reads + n) 18446744073709551615)
counted_fault t bytes read xs ks before reads i d f now so new e lt below reads_it (n, one, sum) (m, is, onward) = (
  m + n,
  onward (Err e) n (opened t bytes read xs ks i d f now (Err e) n lt below
      (yes_of (read (get_or xs i d)) (TakenBy t bytes (get_or xs i d) (get_or ks i f) now (Err e) n (λ c j. TakenAnew t bytes read (drop (i + 1) xs) (drop (i + 1) ks) c (Err e) j)) (TakenAnew t bytes read (drop (i + 1) xs) (drop (i + 1) ks) now (Err e) n) reads_it
      (fault_of t bytes (get_or xs i d) (get_or ks i f) now e n (λ c j. TakenAnew t bytes read (drop (i + 1) xs) (drop (i + 1) ks) c (Err e) j) one))),
  more_reads reads m n 18446744073709551615 so new is sum,
)

-- all were taken
pub counted_all : (t : Forest Resolved) (bytes : List ℕ) (read : Table → Bool) (xs : List Table) (ks : List (Option ℕ)) (before : List ℕ) (reads i : ℕ) (now : List ℕ) (so : ℕ) → length xs ≤ i
    → Counted t bytes read xs ks before reads i now so → (n : ℕ) × TakenAnew t bytes read xs ks before (Ok now) n × (so ≡ min (reads + n) 18446744073709551615)
counted_all t bytes read xs ks before reads i now so past (m, is, onward) =
    (m + 0, onward (Ok now) 0 (subst (λ (ys : List Table). TakenAnew t bytes read ys (drop i ks) now (Ok now) 0) (sym (drop_all i xs past)) (refl, refl)), omega (arith, is))

pub same_counted : (t : Forest Resolved) (bytes : List ℕ) (read : Table → Bool) (xs : List Table) (ks : List (Option ℕ)) (before : List ℕ) (reads i : ℕ) (now other : List ℕ) (so new : ℕ) → other ≡ now → new ≡ so
    → Counted t bytes read xs ks before reads i now so → Counted t bytes read xs ks before reads i other new
same_counted t bytes read xs ks before reads i now other so new same is h =
    subst (λ (c : List ℕ). Counted t bytes read xs ks before reads i c new) (sym same) (subst (λ (n : ℕ). Counted t bytes read xs ks before reads i now n) (sym is) h)

-- from the list of the tables to those of the record, and from the counts that were begun with to the greatest ones
pub anew_in : (t : Forest Resolved) (bytes : List ℕ) (read : Table → Bool) (xs : List Table) (ks : List (Option ℕ)) (before : List ℕ) (r : Result (List ℕ) CountFault) (reads new : ℕ) → xs ≡ tables_of t → before ≡ greatest_counts t
    → (n : ℕ) × TakenAnew t bytes read xs ks before r n × (new ≡ min (reads + n) 18446744073709551615)
    → (n : ℕ) × TakenAnew t bytes read (tables_of t) ks (greatest_counts t) r n × (new ≡ min (reads + n) 18446744073709551615)
anew_in t bytes read xs ks before r reads new all is (n, taken, so) =
    (n, subst (λ (c : List ℕ). TakenAnew t bytes read (tables_of t) ks c r n) is (subst (λ (ys : List Table). TakenAnew t bytes read ys ks before r n) all taken), so)
