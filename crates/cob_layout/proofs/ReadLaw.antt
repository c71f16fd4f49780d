-- Whether a reference reads or is spared no count, by the numbers behind entries.
use Rattle.std.proofs.Common.{◌≡◌, ℕ, ◌+◌, ◌≤◌, ◌==◌, ◌&&◌, nat_lt, Bool, true, false, List, [], ◌∷◌, length, map, Some, refl, sym, ap, subst, ◌∙◌, arith}
use Rattle.std.specs.Prelude.{not}
use Rattle.std.specs.List.{slice_get}
use Rattle.std.proofs.lemmas.List.{length-map}
use Rattle.std.proofs.lemmas.Bool.Decides.{nat_tests}
use Rattle.cob_copybook_tree.specs.Forests.{Forest, entries_in}
use Rattle.cob_copybook_tree.specs.Nodes.{Resolved}
use Rattle.cob_layout.specs.Sound.{IsSound}
use Rattle.cob_layout_places.specs.declared.varying.Table.{Table}
use Rattle.cob_layout_places.specs.Counts.{tables_of}
use Rattle.cob_layout_places.specs.Needs.{Has, number_behind, keep, is_needed, needed_tables, NeedsAreRead}
use Rattle.cob_layout_places.proofs.NeedLemmas.{needed_is}
use Rattle.cob_layout.specs.declared.ways.Way.{Way}
use Rattle.cob_layout.specs.Counting.{AreThose, IsRead, ReadsNone}
use Rattle.cob_layout.specs.Standing.{are_none}
use Rattle.cob_layout.specs.Ways.{held, held_in, held_at, end_of_table}
use Rattle.cob_layout.proofs.ThoseLemmas.{same_those, keep_no, Rise, rise_all}
use Rattle.cob_layout.proofs.NeedLemmas.{those_needed}
use Rattle.cob_layout.proofs.SpotLaw.{length_held}
use Rattle.cob_layout.proofs.WayLaw.{reach_end, reach_table_end}

none_kept : (xs : List Table) → are_none xs ≡ true → xs ≡ []
none_kept [] e = refl
none_kept (x ∷ xs) e = absurd (cc)

some_kept : (xs : List Table) → are_none xs ≡ false → xs ≡ [] → ⊥
some_kept [] e n = cc
some_kept (x ∷ xs) e n = cc

-- ---- counts that are read

-- whether none of these is so is seen in the list of those that are
pub none_of : (P : Table → Type 0) (xs ys : List Table) (b : Bool) → AreThose P xs ys → b ≡ are_none ys → b ≡ true → AreThose P xs []
none_of P xs ys b those is yes_ = subst (AreThose P xs) (none_kept ys (sym is ∙ yes_)) those

pub some_of : (P : Table → Type 0) (xs ys : List Table) (b : Bool) → AreThose P xs ys → b ≡ are_none ys → b ≡ false → AreThose P xs [] → ⊥
some_of P xs ys b those is no_ none = some_kept ys (sym is ∙ no_) (same_those P xs ys [] those none)

not_less : (a b : ℕ) → b ≤ a → nat_lt a b ≡ false
not_less a b h = grind (arith, nat_tests)

-- no table is needed where the first one isn't below the reach
keep_none : (xs : List Table) (n m behind r : ℕ) (last : Bool) → Rise n m xs → behind ≤ n → keep (is_needed behind last r) xs ≡ []
keep_none [] n m behind r last rise le = refl
keep_none (x ∷ xs) n m behind r last rise le =
    let past : nat_lt x.number behind ≡ false = not_less x.number behind (omega (arith, le, rise.0)) in
    let fails : is_needed behind last r x ≡ false = ap (λ (b : Bool). b && not (last && (nat_lt r x.number && nat_lt r x.count))) past in
    keep_no (is_needed behind last r) x xs fails ∙ keep_none xs (x.number + 1) m behind r last rise.1 (omega (arith, le, rise.0))

-- what is known of a record's ways
pub record Known (t : Forest Resolved) (ways : List Way) (tables : List Table) (r : ℕ) : Type 0 where
  pub sound : IsSound t
  pub ways_are : map held ways ≡ held_in [] t
  pub tables_are : tables ≡ tables_of t
  pub has : Has r t

-- the reach of the entry ends with the record's
pub last_is : (t : Forest Resolved) (ways : List Way) (tables : List Table) (r : ℕ) (receiving : Bool) → Known t ways tables r
    → (receiving && ((held_at (map held ways) r).end == length ways)) ≡ (receiving && (number_behind false r t == entries_in t))
last_is t ways tables r receiving k =
    let long : length ways ≡ entries_in t = sym (length-map ways held) ∙ ap length k.ways_are ∙ length_held [] t in
    ap (λ (n : ℕ). receiving && (n == length ways)) (sym (reach_end t (map held ways) r k.sound.numbered k.ways_are k.has))
    ∙ ap (λ (n : ℕ). receiving && (number_behind false r t == n)) long

-- those that the test keeps are those that the reference reads
pub those_read : NeedsAreRead → (t : Forest Resolved) (ways : List Way) (tables : List Table) (r behind : ℕ) (receiving last : Bool) → Known t ways tables r → behind ≡ end_of_table (map held ways) r
    → last ≡ (receiving && ((held_at (map held ways) r).end == length ways))
    → AreThose (IsRead t r receiving) (tables_of t) (keep (is_needed behind last r) tables)
those_read read t ways tables r behind receiving last k b l =
    let reached : behind ≡ number_behind true r t = b ∙ sym (reach_table_end t (map held ways) r k.sound.numbered k.ways_are k.has) in
    let same : keep (is_needed behind last r) tables ≡ needed_tables t r receiving (tables_of t) =
    ap (λ (xs : List Table). keep (is_needed behind last r) xs) k.tables_are
    ∙ needed_is t r receiving (tables_of t) behind (entries_in t) last reached (l ∙ last_is t ways tables r receiving k) refl in
    subst (AreThose (IsRead t r receiving) (tables_of t)) (sym same) (those_needed read t r receiving k.sound k.has)

-- where the first table isn't below the reach, it reads none
pub reads_below : NeedsAreRead → (t : Forest Resolved) (ways : List Way) (tables : List Table) (r behind : ℕ) (receiving : Bool) → Known t ways tables r → behind ≡ end_of_table (map held ways) r
    → ((x : Table) (xs : List Table) → tables ≡ x ∷ xs → behind ≤ x.number) → ReadsNone t r receiving
reads_below read t ways tables r behind receiving k b below =
    let last = receiving && ((held_at (map held ways) r).end == length ways) in
    let rise = rise_all t 0 (0 + entries_in t) k.sound.numbered refl in
    let none : keep (is_needed behind last r) tables ≡ [] = by tables (subst (Rise 0 (0 + entries_in t)) (sym k.tables_are) rise) below in
    subst (AreThose (IsRead t r receiving) (tables_of t)) none (those_read read t ways tables r behind receiving last k b refl)
  where
    by : (xs : List Table) → Rise 0 (0 + entries_in t) xs → ((x : Table) (ys : List Table) → xs ≡ x ∷ ys → behind ≤ x.number)
        → keep (is_needed behind (receiving && ((held_at (map held ways) r).end == length ways)) r) xs ≡ []
    by [] rise below = refl
    by (x ∷ xs) rise below = keep_none (x ∷ xs) x.number (0 + entries_in t) behind r (receiving && ((held_at (map held ways) r).end == length ways)) (omega arith, rise.1) (below x xs refl)

-- what a layout knows of its record
pub known_in : (t u : Forest Resolved) (ways : List Way) (tables : List Table) (r : ℕ) → IsSound t → t ≡ u → map held ways ≡ held_in [] t → tables ≡ tables_of t → Has r u → Known u ways tables r
known_in t u ways tables r s same ways_are tables_are has = record {
  sound = subst IsSound same s;
  ways_are = ways_are ∙ ap (λ (v : Forest Resolved). held_in [] v) same;
  tables_are = tables_are ∙ ap (λ (v : Forest Resolved). tables_of v) same;
  has = has;
}

-- the first table
pub first_is : (xs ys : List Table) (x y : Table) → Some y ≡ slice_get xs 0 → xs ≡ x ∷ ys → x ≡ y
first_is xs ys x y got cut =
    let e : Some y ≡ Some x = got ∙ ap (λ (zs : List Table). slice_get zs 0) cut in cc
