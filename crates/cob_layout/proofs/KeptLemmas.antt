-- Kept counts are those that are needed.
use Rattle.std.proofs.Common.{◌≡◌, ◌⊎◌, ℕ, ◌+◌, ◌<◌, ◌≤◌, Bool, true, false, List, [], ◌∷◌, length, Option, Some, None, refl, sym, ap, subst, ◌∙◌, arith, inl, inr, Ok, Err, Result}
use Rattle.std.specs.Prelude.{MatchBool, if◌then◌else◌, slice_index, slice_set}
use Rattle.std.proofs.lemmas.Bool.Decides.{nat_tests}
use Rattle.std.proofs.lemmas.List.{length-set}
use Rattle.cob_copybook_tree.specs.Forests.{Forest, entries_in}
use Rattle.cob_copybook_tree.specs.Nodes.{Resolved}
use Rattle.cob_layout_places.specs.declared.counts.CountFault.{CountFault}
use Rattle.cob_layout_places.specs.declared.varying.Table.{Table}
use Rattle.cob_layout_places.specs.Counts.{tables_of, IsCounted, Taken}
use Rattle.cob_layout_places.specs.Needs.{is_needed, is_read, keep}
use Rattle.cob_layout_places.specs.Agree.{OnePlace}
use Rattle.cob_layout_places.proofs.CountLemmas.{one_counted}
use Rattle.cob_layout.specs.Counting.{greatest_counts}
use Rattle.cob_layout.specs.Sound.{IsSound}
use Rattle.cob_layout.specs.Kept.{IsIn, IsNoTable, IsStoredCount, counted, IsKeptCount, AreKept, TakenAnew, TakenBy, KeptAfter, KeptGiveNeeded, ReadOnce, first_kept, kept_after, kept_in, one_if, others_kept}
use Rattle.cob_layout.proofs.GreatestLemmas.{greatest_length}
use Rattle.cob_layout.proofs.NeedLemmas.{Known, known, same_count, same_or_not, other_index, own_index}
use Rattle.cob_layout.proofs.ThoseLemmas.{Rise, rise_all, rise_low, rise_high, one_number, keep_yes, keep_no}

abbrev the_ok : ℕ → Result ℕ CountFault
the_ok v = Ok v

same_ok : (v w : ℕ) → the_ok v ≡ the_ok w → v ≡ w
same_ok v w e = cc

-- a number is that of a table, or of none
pub of_table : (xs : List Table) (k : ℕ) → ((z : Table) × IsIn z xs × (z.number ≡ k)) ⊎ ((z : Table) → IsIn z xs → z.number ≡ k → ⊥)
of_table [] k = inr (λ z i e. i)
of_table (x ∷ xs) k = elim (same_or_not x.number k) [
  | inl same ↦ inl (x, inl refl, same)
  | inr other ↦ elim (of_table xs k) [
    | inl found ↦ inl (found.0, inr found.1, found.2)
    | inr none ↦ inr (λ z i e. elim i [ inl is ↦ other (ap (λ (y : Table). y.number) (sym is) ∙ e) | inr j ↦ none z j e ])
  ]
]

-- counts that agree on the tables up to the item of a table's count, and on no table, give the table one count
moved : OnePlace → (t : Forest Resolved) (bytes : List ℕ) (x : Table) (c d : List ℕ) (r : Result ℕ CountFault) → IsSound t → IsIn x (tables_of t)
    → ((z : Table) → IsIn z (tables_of t) → z.number ≤ x.count → slice_index c z.number ≡ slice_index d z.number)
    → ((k : ℕ) → IsNoTable t k → slice_index c k ≡ slice_index d k)
    → IsCounted t bytes x c r → IsCounted t bytes x d r
moved place t bytes x c d r s i tables others is =
    let k : Known t x = known t x s i in
    same_count place t bytes x c d r s.numbered k.has (λ y has needs. by y (k.earlier y needs)) is
  where
    by : (y : ℕ) → y ≤ x.count → slice_index c y ≡ slice_index d y
    by y le = elim (of_table (tables_of t) y) [
      | inl found ↦ (let (z, j, e) = found in
          ap (slice_index c) (sym e) ∙ tables z j (omega (arith, e, le)) ∙ ap (slice_index d) e)
      | inr none ↦ others y none
    ]

-- a table has one count
pub one : OnePlace → (t : Forest Resolved) (bytes : List ℕ) → IsSound t → (x : Table) (v w : ℕ) → IsIn x (tables_of t) → IsStoredCount t bytes x v → IsStoredCount t bytes x w → v ≡ w
one place t bytes s x v w i (counted _ _ c before rest is) (counted _ _ d earlier behind are) =
    same_ok v w (one_counted t bytes x d (Ok v) (Ok w)
    (moved place t bytes x c d (Ok v) s i
    (λ z j le. one place t bytes s z (slice_index c z.number) (slice_index d z.number) j (before z j le) (earlier z j le))
    (λ k none. rest k none ∙ sym (behind k none)) is)
    are)

-- the counts so far are those of the tables below this number that are read
abbrev pub Before : Forest Resolved → List ℕ → (Table → Bool) → ℕ → List ℕ → Type 0
Before t bytes read m c = (y : Table) → IsIn y (tables_of t) → y.number < m → read y ≡ true → IsStoredCount t bytes y (slice_index c y.number)

-- and they are the greatest ones where no table is
abbrev pub Beside : Forest Resolved → List ℕ → Type 0
Beside t c = (k : ℕ) → IsNoTable t k → slice_index c k ≡ slice_index (greatest_counts t) k

-- with a table, those up to its count's item are read
abbrev pub Closed : Forest Resolved → (Table → Bool) → Type 0
Closed t read = (x y : Table) → IsIn x (tables_of t) → IsIn y (tables_of t) → y.number ≤ x.count → read x ≡ true → read y ≡ true

-- a kept count is what the bytes say under the counts so far
still : OnePlace → (t : Forest Resolved) (bytes : List ℕ) (read : Table → Bool) (x : Table) (v : ℕ) (c : List ℕ) → IsSound t → Closed t read → IsIn x (tables_of t) → read x ≡ true
    → Before t bytes read x.number c → Beside t c → IsStoredCount t bytes x v → IsCounted t bytes x c (Ok v)
still place t bytes read x v c s closed i reads before beside (counted _ _ d earlier rest is) =
    let k : Known t x = known t x s i in
    moved place t bytes x d c (Ok v) s i
    (λ z j le. one place t bytes s z (slice_index d z.number) (slice_index c z.number) j (earlier z j le) (before z j (omega (arith, le, k.before)) (closed x z i j le reads)))
    (λ n none. rest n none ∙ sym (beside n none)) is

-- a count that is read is that of the table
anew : (t : Forest Resolved) (bytes : List ℕ) (read : Table → Bool) (x : Table) (v : ℕ) (c : List ℕ) → IsSound t → Closed t read → IsIn x (tables_of t) → read x ≡ true
    → Before t bytes read x.number c → Beside t c → IsCounted t bytes x c (Ok v) → IsStoredCount t bytes x v
anew t bytes read x v c s closed i reads before beside is =
    let k : Known t x = known t x s i in
    counted x v c (λ z j le. before z j (omega (arith, le, k.before)) (closed x z i j le reads)) beside is

beside_more : (t : Forest Resolved) (x : Table) (v : ℕ) (c : List ℕ) → IsIn x (tables_of t) → Beside t c → Beside t (slice_set c x.number v)
beside_more t x v c i beside k none = other_index c x.number k v (λ e. none x i (sym e)) ∙ beside k none

-- ---- a table that is read

cases : (b : Bool) (A B C : Type 0) → MatchBool b A B → (b ≡ true → A → C) → (b ≡ false → B → C) → C
cases true A B C h f g = f refl h
cases false A B C h f g = g refl h

-- what comes of it: a count, and then the others, or its fault
abbrev Came : Forest Resolved → List ℕ → Table → List ℕ → Result (List ℕ) CountFault → (List ℕ → ℕ → Type 0) → Type 0
Came t bytes x c r others =
    ((v m : ℕ) × IsCounted t bytes x c (Ok v) × IsStoredCount t bytes x v × others (slice_set c x.number v) m)
    ⊎ ((e : CountFault) × IsCounted t bytes x c (Err e) × (r ≡ Err e))

came : (t : Forest Resolved) (bytes : List ℕ) (x : Table) (k : Option ℕ) (c : List ℕ) (r : Result (List ℕ) CountFault) (n : ℕ) (others : List ℕ → ℕ → Type 0)
    → ((v : ℕ) → IsStoredCount t bytes x v → IsCounted t bytes x c (Ok v)) → ((v : ℕ) → IsCounted t bytes x c (Ok v) → IsStoredCount t bytes x v)
    → IsKeptCount t bytes x k → TakenBy t bytes x k c r n others → Came t bytes x c r others
came t bytes x (Some v) c r n others stays comes kept h = inl (v, n, stays v kept, kept, h)
came t bytes x None c r n others stays comes kept (inl (v, m, is, h, e)) = inl (v, m, is, comes v is, h)
came t bytes x None c r n others stays comes kept (inr (e, is, same, last)) = inr (e, is, same)

-- what is so of the counts so far, where these tables are left
pub record Sofar (t : Forest Resolved) (bytes : List ℕ) (read : Table → Bool) (xs : List Table) (c : List ℕ) : Type 0 where
  pub rise : (n : ℕ) × Rise n (entries_in t) xs
  pub among : (x : Table) → IsIn x xs → IsIn x (tables_of t)
  pub long : length c ≡ entries_in t
  pub beside : Beside t c
  pub before : (y : Table) → IsIn y (tables_of t) → read y ≡ true → (IsIn y xs → ⊥) → IsStoredCount t bytes y (slice_index c y.number)

-- the tables below the first of them
lower : (t : Forest Resolved) (bytes : List ℕ) (read : Table → Bool) (x : Table) (xs : List Table) (c : List ℕ) → Sofar t bytes read (x ∷ xs) c → Before t bytes read x.number c
lower t bytes read x xs c so y i lt reads = so.before y i reads (λ j. absurd (omega (arith, lt, rise_low x.number (entries_in t) (x ∷ xs) y (omega arith, so.rise.1.1) j)))

same_table : (t : Forest Resolved) (x y : Table) → IsSound t → IsIn x (tables_of t) → IsIn y (tables_of t) → y.number ≡ x.number → y ≡ x
same_table t x y s i j e = one_number 0 (0 + entries_in t) (tables_of t) y x (rise_all t 0 (0 + entries_in t) s.numbered refl) j i e

not_in : (x y : Table) (xs : List Table) → (y.number ≡ x.number → ⊥) → (IsIn y xs → ⊥) → IsIn y (x ∷ xs) → ⊥
not_in x y xs other none (inl e) = other (ap (λ (z : Table). z.number) e)
not_in x y xs other none (inr i) = none i

sofar_read : (t : Forest Resolved) (bytes : List ℕ) (read : Table → Bool) (x : Table) (xs : List Table) (v : ℕ) (c : List ℕ) → IsSound t → Sofar t bytes read (x ∷ xs) c → IsStoredCount t bytes x v
    → Sofar t bytes read xs (slice_set c x.number v)
sofar_read t bytes read x xs v c s so own =
    let i : IsIn x (tables_of t) = so.among x (inl refl) in
    let room : x.number < length c = omega (arith, so.long, rise_high so.rise.0 (entries_in t) (x ∷ xs) x so.rise.1 (inl refl)) in record {
      rise = (x.number + 1, so.rise.1.1);
      among = λ y j. so.among y (inr j);
      long = length-set c x.number v ∙ so.long;
      beside = beside_more t x v c i so.beside;
      before = λ y j reads none. elim (same_or_not y.number x.number) [
        | inl same ↦ subst (λ (n : ℕ). IsStoredCount t bytes y n) (sym (own_index c x.number y.number v same room))
            (subst (λ (z : Table). IsStoredCount t bytes z v) (sym (same_table t x y s i j same)) own)
        | inr other ↦ subst (λ (n : ℕ). IsStoredCount t bytes y n) (sym (other_index c x.number y.number v other)) (so.before y j reads (not_in x y xs other none))
      ];
    }

sofar_skipped : (t : Forest Resolved) (bytes : List ℕ) (read : Table → Bool) (x : Table) (xs : List Table) (c : List ℕ) → IsSound t → read x ≡ false → Sofar t bytes read (x ∷ xs) c → Sofar t bytes read xs c
sofar_skipped t bytes read x xs c s skips so =
    let i : IsIn x (tables_of t) = so.among x (inl refl) in record {
      rise = (x.number + 1, so.rise.1.1);
      among = λ y j. so.among y (inr j);
      long = so.long;
      beside = so.beside;
      before = λ y j reads none. elim (same_or_not y.number x.number) [
        | inl same ↦ absurd (never (read x) (subst (λ (z : Table). read z ≡ true) (same_table t x y s i j same) reads) skips)
        | inr other ↦ so.before y j reads (not_in x y xs other none)
      ];
    }
  where
    never : (b : Bool) → b ≡ true → b ≡ false → ⊥
    never b e f = cc

-- what the readings of these tables come to, from the counts so far: the counts of those that are read, and at the end they are so of all
go : OnePlace → (t : Forest Resolved) (bytes : List ℕ) (read : Table → Bool) → IsSound t → Closed t read → (xs : List Table) (ks : List (Option ℕ)) (c : List ℕ) (r : Result (List ℕ) CountFault) (n : ℕ)
    → Sofar t bytes read xs c → AreKept t bytes xs ks → TakenAnew t bytes read xs ks c r n → Taken t bytes (keep read xs) c r
go place t bytes read s closed [] ks c r n so kept taken = taken.0
go place t bytes read s closed (x ∷ xs) ks c r n so kept taken =
    let i : IsIn x (tables_of t) = so.among x (inl refl) in
    cases (read x) (TakenBy t bytes x (first_kept ks) c r n (λ d m. TakenAnew t bytes read xs (others_kept ks) d r m)) (TakenAnew t bytes read xs (others_kept ks) c r n) (Taken t bytes (keep read (x ∷ xs)) c r) taken
    (λ reads h. subst (λ (ys : List Table). Taken t bytes ys c r) (sym (keep_yes read x xs reads))
    (elim (came t bytes x (first_kept ks) c r n (λ d m. TakenAnew t bytes read xs (others_kept ks) d r m)
    (λ v. still place t bytes read x v c s closed i reads (lower t bytes read x xs c so) so.beside)
    (λ v. anew t bytes read x v c s closed i reads (lower t bytes read x xs c so) so.beside) kept.0 h) [
      | inl (v, m, is, own, rest) ↦ inl (v, is, go place t bytes read s closed xs (others_kept ks) (slice_set c x.number v) r m (sofar_read t bytes read x xs v c s so own) kept.1 rest)
      | inr (e, is, same) ↦ inr (e, is, same)
    ]))
    (λ skips h. subst (λ (ys : List Table). Taken t bytes ys c r) (sym (keep_no read x xs skips))
    (go place t bytes read s closed xs (others_kept ks) c r n (sofar_skipped t bytes read x xs c s skips so) kept.1 h))

-- ---- what a reference reads is closed

pub needed_closed : (behind : ℕ) (last : Bool) (r : ℕ) (x y : Table) → x.count < x.number → y.number ≤ x.count → is_needed behind last r x ≡ true → is_needed behind last r y ≡ true
needed_closed behind last r x y before le h = grind (arith, nat_tests)

pub reads_closed : (t : Forest Resolved) (node : ℕ) (receiving : Bool) → IsSound t → Closed t (is_read t node receiving)
reads_closed t node receiving s x y i j le reads =
    needed_closed _ _ node x y (known t x s i).before le reads

-- from the start
pub start : (t : Forest Resolved) (bytes : List ℕ) (read : Table → Bool) → IsSound t → Sofar t bytes read (tables_of t) (greatest_counts t)
start t bytes read s = record {
  rise = (0, rise_all t 0 (entries_in t) s.numbered (omega arith));
  among = λ x i. i;
  long = greatest_length t s.numbered;
  beside = λ k none. refl;
  before = λ y i reads none. absurd (none i);
}

pub kept_give_needed : OnePlace → KeptGiveNeeded
kept_give_needed place t bytes node receiving ks r n s kept taken =
    go place t bytes (is_read t node receiving) s (reads_closed t node receiving s) (tables_of t) ks (greatest_counts t) r n (start t bytes (is_read t node receiving) s) kept taken

-- ---- how many are read

if_yes : (b : Bool) (k : Option ℕ) (v : ℕ) → b ≡ true → one_if (if b then Some v else k) ≡ 1
if_yes b k v e = ap (λ x. one_if (if x then Some v else k)) e

if_no : (b : Bool) (k : Option ℕ) (v : ℕ) → b ≡ false → one_if (if b then Some v else k) ≡ one_if k
if_no b k v e = ap (λ x. one_if (if x then Some v else k)) e

abbrev all_ok : List ℕ → Result (List ℕ) CountFault
all_ok d = Ok d

abbrev all_err : CountFault → Result (List ℕ) CountFault
all_err e = Err e

ok_not : (d : List ℕ) (e : CountFault) → all_ok d ≡ all_err e → ⊥
ok_not d e h = cc

read_one : (t : Forest Resolved) (bytes : List ℕ) (x : Table) (k : Option ℕ) (c d : List ℕ) (n before after : ℕ) (others : List ℕ → ℕ → Type 0)
    → ((b : List ℕ) (m : ℕ) → others b m → m + before ≡ after) → TakenBy t bytes x k c (Ok d) n others → n + (one_if k + before) ≡ 1 + after
read_one t bytes x (Some v) c d n before after others more h = omega (arith, more (slice_set c x.number v) n h)
read_one t bytes x None c d n before after others more (inl (v, m, is, h, e)) = omega (arith, more (slice_set c x.number v) m h, e)
read_one t bytes x None c d n before after others more (inr (e, is, same, last)) = absurd (ok_not d e same)

refused_one : (t : Forest Resolved) (bytes : List ℕ) (x : Table) (k : Option ℕ) (c : List ℕ) (e : CountFault) (n before most : ℕ) (others : List ℕ → ℕ → Type 0)
    → before ≤ most → ((b : List ℕ) (m : ℕ) → others b m → m + before ≤ most) → TakenBy t bytes x k c (Err e) n others → n + (one_if k + before) ≤ 1 + most
refused_one t bytes x (Some v) c e n before most others le more h = omega (arith, more (slice_set c x.number v) n h)
refused_one t bytes x None c e n before most others le more (inl (v, m, is, h, s)) = omega (arith, more (slice_set c x.number v) m h, s)
refused_one t bytes x None c e n before most others le more (inr (f, is, same, last)) = omega (arith, last, le)

few : (xs : List Table) (ks : List (Option ℕ)) → kept_in xs ks ≤ length xs
few [] ks = omega arith
few (x ∷ xs) ks = omega (arith, few xs (others_kept ks), one (first_kept ks))
  where
    one : (k : Option ℕ) → one_if k ≤ 1
    one None = omega arith
    one (Some v) = omega arith

read_ok : (t : Forest Resolved) (bytes : List ℕ) (read : Table → Bool) (xs : List Table) (ks : List (Option ℕ)) (c d : List ℕ) (n : ℕ) → TakenAnew t bytes read xs ks c (Ok d) n
    → n + kept_in xs ks ≡ kept_in xs (kept_after read d xs ks)
read_ok t bytes read [] ks c d n h = omega (arith, h.1)
read_ok t bytes read (x ∷ xs) ks c d n h =
    let k : Option ℕ = first_kept ks in
    let w : ℕ = slice_index d x.number in
    let rest : ℕ = kept_in xs (kept_after read d xs (others_kept ks)) in
    cases (read x) (TakenBy t bytes x k c (Ok d) n (λ b m. TakenAnew t bytes read xs (others_kept ks) b (Ok d) m)) (TakenAnew t bytes read xs (others_kept ks) c (Ok d) n)
    (n + (one_if k + kept_in xs (others_kept ks)) ≡ one_if (if read x then Some w else k) + rest) h
    (λ reads taken. omega (
      arith,
      if_yes (read x) k w reads,
      read_one t bytes x k c d n (kept_in xs (others_kept ks)) rest (λ b m. TakenAnew t bytes read xs (others_kept ks) b (Ok d) m) (λ b m more. read_ok t bytes read xs (others_kept ks) b d m more) taken,
    ))
    (λ skips taken. omega (arith, if_no (read x) k w skips, read_ok t bytes read xs (others_kept ks) c d n taken))

read_err : (t : Forest Resolved) (bytes : List ℕ) (read : Table → Bool) (xs : List Table) (ks : List (Option ℕ)) (c : List ℕ) (e : CountFault) (n : ℕ) → TakenAnew t bytes read xs ks c (Err e) n
    → n + kept_in xs ks ≤ length xs
read_err t bytes read [] ks c e n h = omega (arith, h.1)
read_err t bytes read (x ∷ xs) ks c e n h =
    let k : Option ℕ = first_kept ks in
    cases (read x) (TakenBy t bytes x k c (Err e) n (λ b m. TakenAnew t bytes read xs (others_kept ks) b (Err e) m)) (TakenAnew t bytes read xs (others_kept ks) c (Err e) n)
    (n + (one_if k + kept_in xs (others_kept ks)) ≤ length (x ∷ xs)) h
    (λ reads taken. omega (
      arith,
      refused_one t bytes x k c e n (kept_in xs (others_kept ks)) (length xs) (λ b m. TakenAnew t bytes read xs (others_kept ks) b (Err e) m) (few xs (others_kept ks))
          (λ b m more. read_err t bytes read xs (others_kept ks) b e m more) taken,
    ))
    (λ skips taken. omega (arith, few (x ∷ xs) ks, one k, read_err t bytes read xs (others_kept ks) c e n taken))
  where
    one : (k : Option ℕ) → one_if k ≤ 1
    one None = omega arith
    one (Some v) = omega arith

pub read_once : ReadOnce
read_once t bytes read xs ks c d e n = (read_ok t bytes read xs ks c d n, read_err t bytes read xs ks c e n)

-- ---- what is kept then

pub ends : OnePlace → (t : Forest Resolved) (bytes : List ℕ) (read : Table → Bool) → IsSound t → Closed t read → (xs : List Table) (ks : List (Option ℕ)) (c d : List ℕ) (n : ℕ)
    → Sofar t bytes read xs c → AreKept t bytes xs ks → TakenAnew t bytes read xs ks c (Ok d) n → Sofar t bytes read [] d
ends place t bytes read s closed [] ks c d n so kept taken = subst (λ (b : List ℕ). Sofar t bytes read [] b) (same d c taken.0) so
  where
    same : (d c : List ℕ) → all_ok d ≡ all_ok c → c ≡ d
    same d c e = cc
ends place t bytes read s closed (x ∷ xs) ks c d n so kept taken =
    let i : IsIn x (tables_of t) = so.among x (inl refl) in
    cases (read x) (TakenBy t bytes x (first_kept ks) c (Ok d) n (λ b m. TakenAnew t bytes read xs (others_kept ks) b (Ok d) m)) (TakenAnew t bytes read xs (others_kept ks) c (Ok d) n) (Sofar t bytes read [] d) taken
    (λ reads h. elim (came t bytes x (first_kept ks) c (Ok d) n (λ b m. TakenAnew t bytes read xs (others_kept ks) b (Ok d) m)
    (λ v. still place t bytes read x v c s closed i reads (lower t bytes read x xs c so) so.beside)
    (λ v. anew t bytes read x v c s closed i reads (lower t bytes read x xs c so) so.beside) kept.0 h) [
      | inl (v, m, is, own, rest) ↦ ends place t bytes read s closed xs (others_kept ks) (slice_set c x.number v) d m (sofar_read t bytes read x xs v c s so own) kept.1 rest
      | inr (e, is, never) ↦ absurd (ok_not d e never)
    ])
    (λ skips h. ends place t bytes read s closed xs (others_kept ks) c d n (sofar_skipped t bytes read x xs c s skips so) kept.1 h)

kept_are : (t : Forest Resolved) (bytes : List ℕ) (read : Table → Bool) (d : List ℕ) (xs : List Table) (ks : List (Option ℕ)) → ((x : Table) → IsIn x xs → IsIn x (tables_of t))
    → Sofar t bytes read [] d → AreKept t bytes xs ks → AreKept t bytes xs (kept_after read d xs ks)
kept_are t bytes read d [] ks among so kept = tt
kept_are t bytes read d (x ∷ xs) ks among so kept =
    (own (read x) refl, kept_are t bytes read d xs (others_kept ks) (λ y i. among y (inr i)) so kept.1)
  where
    own : (b : Bool) → read x ≡ b → IsKeptCount t bytes x (if b then Some (slice_index d x.number) else first_kept ks)
    own true e = so.before x (among x (inl refl)) e (λ i. i)
    own false e = kept.0

pub kept_after_reading : OnePlace → KeptAfter
kept_after_reading place t bytes node receiving ks d n s kept taken =
    kept_are t bytes (is_read t node receiving) d (tables_of t) ks (λ x i. i)
    (ends place t bytes (is_read t node receiving) s (reads_closed t node receiving s) (tables_of t) ks (greatest_counts t) d n (start t bytes (is_read t node receiving) s) kept taken)
    kept
