-- The sums of a record with just one table that varies, and which grows alone.
use Rattle.std.proofs.Common.{◌≡◌, ℕ, ◌+◌, ◌-◌, ◌*◌, ◌≤◌, min, max, List, [], ◌∷◌, length, take, Option, Some, None, refl, sym, ap, subst, ◌∙◌, arith, inl}
use Rattle.std.specs.Prelude.{slice_index, slice_set}
use Rattle.cob_copybook_tree.specs.Forests.{Forest}
use Rattle.cob_copybook_tree.specs.Nodes.{Resolved}
use Rattle.cob_layout_places.specs.declared.spots.Spot.{Spot}
use Rattle.cob_layout_places.specs.declared.varying.Table.{Table}
use Rattle.cob_layout_places.specs.Counts.{tables_of}
use Rattle.cob_layout_places.specs.Lengths.{times}
use Rattle.cob_layout_places.specs.Spots.{spots_of}
use Rattle.cob_layout.specs.declared.counts.StoredCount.{StoredCount}
use Rattle.cob_layout.specs.declared.fields.Place.{Place}
use Rattle.cob_layout.specs.declared.lone.LoneTable.{LoneTable}
use Rattle.cob_layout.specs.declared.shifts.Growth.{Growth}
use Rattle.cob_layout.specs.declared.shifts.Shift.{Shift}
use Rattle.cob_layout.specs.Counting.{greatest_counts}
use Rattle.cob_layout.specs.Kept.{AreKeptOf, IsKeptAs, kept_numbers}
use Rattle.cob_layout.specs.Lone.{GrowsAlone, IsLoneIn, IsLoneTable, there}
use Rattle.cob_layout.specs.Shifts.{grow_in, next_sum, sums_by, sums_of}
use Rattle.cob_layout.specs.Sound.{IsSound}
use Rattle.cob_layout.proofs.ElementLemmas.{most_of}
use Rattle.cob_layout.proofs.FindLemmas.{first_under}
use Rattle.cob_layout.proofs.LoneLemmas.{is_lone}
use Rattle.cob_layout.proofs.NeedLemmas.{known}
use Rattle.cob_layout.proofs.ShiftLemmas.{Growing, own_sums, summed}

-- the sum behind a table that grows alone is the bytes of its elements
one_sum : (counts : List ℕ) (g : Growth) (v : ℕ) → g.before ≡ 0 → g.times ≡ 0 → slice_index counts g.number ≡ v → v ≤ g.most → next_sum counts (0 ∷ []) 0 g ≡ v * g.bytes
one_sum counts g v before times count le =
    let start : slice_index (0 ∷ []) g.before ≡ 0 = ap (slice_index (0 ∷ [])) before in
    let often : max g.times (min (slice_index counts g.number) g.most) ≡ v = omega (arith, times, count, le) in
    let bytes : g.bytes + slice_index (0 ∷ []) 0 - slice_index (0 ∷ []) g.before ≡ g.bytes = omega (arith, start) in
    let all : max g.times (min (slice_index counts g.number) g.most) * (g.bytes + slice_index (0 ∷ []) 0 - slice_index (0 ∷ []) g.before) ≡ v * g.bytes =
    ap (λ (n : ℕ). n * (g.bytes + slice_index (0 ∷ []) 0 - slice_index (0 ∷ []) g.before)) often ∙ ap (λ (n : ℕ). v * n) bytes in
    omega (arith, start, all)

alone_sums : (t : Forest Resolved) (least : List Spot) (shifts : List Shift) (growths : List Growth) (counts : List ℕ) (x : Table) (g : Growth) → Growing t least shifts growths → GrowsAlone growths x g → slice_index counts x.number ≤ x.most
    → sums_of t counts ≡ 0 ∷ slice_index counts x.number * g.bytes ∷ []
alone_sums t least shifts growths counts x g grow (alone, before, times, number, most) le =
    sym (own_sums t least shifts growths counts grow) ∙ ap (λ (gs : List Growth). sums_by counts gs (0 ∷ []) 0) alone
    ∙ ap (λ (n : ℕ). 0 ∷ n ∷ []) (one_sum counts g (slice_index counts x.number) before times (ap (slice_index counts) number) (omega (arith, le, most)))

-- what a layout keeps of its lone table is so of the record
pub lone_in : (u : Forest Resolved) (tables : List Table) (least : List Spot) (shifts : List Shift) (growths : List Growth) (spots : List Spot) (l : LoneTable) → IsSound u → tables ≡ tables_of u → Growing u least shifts growths
    → spots ≡ spots_of (times (greatest_counts u)) u 0 0 → IsLoneTable tables growths spots l → IsLoneIn u l
lone_in u tables least shifts growths spots l sound are grow stand is =
    let only : tables_of u ≡ l.table ∷ [] = sym are ∙ is.only in
    record {
      only = only;
      before = is.before;
      item = first_under u (greatest_counts u) spots l.table.count sound stand (known u l.table sound (is_lone u l.table only)).has ∙ ap (λ (p : Place). Some (there p)) (sym is.item);
      sums = λ c le. alone_sums u least shifts growths c l.table is.growth grow is.alone le ∙ ap (λ (n : ℕ). 0 ∷ slice_index c l.table.number * n ∷ []) (sym is.bytes);
    }

-- ---- its count among others

-- the count that is kept is no more than the greatest one
pub lone_most : (t : Forest Resolved) (bytes : List ℕ) (x : Table) (now : List (Option StoredCount)) (v : ℕ) → tables_of t ≡ x ∷ [] → AreKeptOf t bytes now → kept_numbers now ≡ Some v ∷ [] → v ≤ x.most
lone_most t bytes x [] v lone keeps is = absurd (omega (arith, ap length is))
lone_most t bytes x (None ∷ ks) v lone keeps is = absurd (cc)
lone_most t bytes x (Some k ∷ ks) v lone keeps is =
    let kept : IsKeptAs x k (tables_of t) (Some k ∷ ks) = subst (λ (xs : List Table). IsKeptAs x k xs (Some k ∷ ks)) (sym lone) (inl (refl, refl)) in
    omega (arith, most_of t bytes x k.number (keeps.numbers x k kept), same_first k.number v (kept_numbers ks) is)
  where
    same_first : (a b : ℕ) (rest : List (Option ℕ)) → ◌≡◌ {A = List (Option ℕ)} (Some a ∷ rest) (Some b ∷ []) → a ≡ b
    same_first a b rest h = cc

-- the sums that are written are those of the counts
pub lone_sums : (u : Forest Resolved) (l : LoneTable) (e : List ℕ) (v : ℕ) (sums : List ℕ) → IsSound u → IsLoneIn u l → slice_index e l.table.number ≡ v → v ≤ l.table.most → take 2 sums ≡ 0 ∷ v * l.bytes ∷ []
    → take (grow_in u + 1) sums ≡ sums_of u e
lone_sums u l e v sums sound is own most put =
    let are : sums_of u e ≡ 0 ∷ slice_index e l.table.number * l.bytes ∷ [] = is.sums e (omega (arith, own, most)) in
    let two : grow_in u + 1 ≡ 2 = sym (summed u e sound).long ∙ ap length are in
    ap (λ (n : ℕ). take n sums) two ∙ put ∙ ap (λ (n : ℕ). 0 ∷ n * l.bytes ∷ []) (sym own) ∙ sym are

-- and lie within the longest record
pub lone_small : (u : Forest Resolved) (l : LoneTable) (e : List ℕ) (v : ℕ) → IsSound u → IsLoneIn u l → slice_index e l.table.number ≡ v → v ≤ l.table.most → v * l.bytes ≤ 32752
lone_small u l e v sound is own most =
    let are : sums_of u e ≡ 0 ∷ slice_index e l.table.number * l.bytes ∷ [] = is.sums e (omega (arith, own, most)) in
    let at : slice_index (sums_of u e) 1 ≡ slice_index e l.table.number * l.bytes = ap (λ (ns : List ℕ). slice_index ns 1) are in
    let same : slice_index e l.table.number * l.bytes ≡ v * l.bytes = ap (λ (n : ℕ). n * l.bytes) own in
    omega (arith, (summed u e sound).low 1, at, same)

pub two_set : (ns : List ℕ) (n : ℕ) → 2 ≤ length ns → take 2 (slice_set (slice_set ns 0 0) 1 n) ≡ 0 ∷ n ∷ []
two_set [] n room = absurd (omega (arith, room))
two_set (a ∷ []) n room = absurd (omega (arith, room))
two_set (a ∷ b ∷ ns) n room = refl
