-- The length of a record under counts, by the sums of its tables.
use Rattle.std.proofs.Common.{◌≡◌, ℕ, ◌+◌, ◌*◌, ◌<◌, ◌≤◌, List, [], refl, sym, ap, ◌∙◌, arith}
use Rattle.std.specs.Prelude.{slice_index}
use Rattle.cob_copybook_tree.specs.Forests.{Forest, NoEntries, AnEntry}
use Rattle.cob_copybook_tree.specs.Nodes.{Resolved}
use Rattle.cob_copybook_tree.specs.Lengths.{greatest_number, element_length, sum_of}
use Rattle.cob_copybook.specs.Bytes.{TakeBytes}
use Rattle.cob_layout_places.specs.declared.spots.Spot.{Spot}
use Rattle.cob_layout_places.specs.Lengths.{times}
use Rattle.cob_layout_places.specs.Spots.{spots_of}
use Rattle.cob_layout_places.proofs.ForestLemmas.{sum_le, within_always}
use Rattle.cob_layout.specs.Counting.{greatest_counts}
use Rattle.cob_layout.specs.Shifts.{grow_in, sums_of}
use Rattle.cob_layout.specs.Sound.{IsSound}
use Rattle.cob_layout.specs.Ways.{spot_at}
use Rattle.cob_layout.proofs.ByteLemmas.{length_some}
use Rattle.cob_layout.proofs.GreatestLemmas.{are_greatest}
use Rattle.cob_layout.proofs.RecordLemmas.{length_is}
use Rattle.cob_layout.proofs.ShiftLemmas.{summed}

-- a record is as long as its own spot says
spot_length : (counts : List ℕ) (u : Forest Resolved) (spots : List Spot) → IsSound u → spots ≡ spots_of (times counts) u 0 0
    → (spot_at spots 0).times * (spot_at spots 0).length ≡ sum_of (times counts) u
spot_length counts NoEntries spots s is = absurd s.first
spot_length counts (AnEntry e b (AnEntry d kids more)) spots s is = absurd s.first
spot_length counts (AnEntry e b NoEntries) spots s is =
    ap (λ (zs : List Spot). (spot_at zs 0).times * (spot_at zs 0).length) is ∙ length_is counts e b (times counts e) (element_length (times counts) e b) s refl refl

-- what a number says of a record's length
pub record Measures (u : Forest Resolved) (counts : List ℕ) (n : ℕ) : Type 0 where
  pub is : n ≡ sum_of (times counts) u
  pub most : n ≤ sum_of greatest_number u
  pub small : n ≤ 32752

pub measures : (u : Forest Resolved) (counts : List ℕ) (n : ℕ) → IsSound u → n ≡ sum_of (times counts) u → Measures u counts n
measures u counts n s is =
    let le = sum_le (times counts) u (within_always counts u) in
    record { is = is; most = omega (arith, is, le); small = omega (arith, is, le, s.fit.small) }

-- the least spot of the record, and the last of the sums
pub record Sizes (u : Forest Resolved) (counts : List ℕ) (least : List Spot) : Type 0 where
  pub first : (spot_at least 0).times * (spot_at least 0).length ≤ 32752
  pub last : slice_index (sums_of u counts) (grow_in u) ≤ 32752
  pub all : (spot_at least 0).times * (spot_at least 0).length + slice_index (sums_of u counts) (grow_in u) ≡ sum_of (times counts) u

pub sizes : (u : Forest Resolved) (counts : List ℕ) (least : List Spot) → IsSound u → least ≡ spots_of (times []) u 0 0 → Sizes u counts least
sizes u counts least s are =
    let own = spot_length [] u least s are in
    let m = summed u counts s in
    let le = sum_le (times []) u (within_always [] u) in
    record { first = omega (arith, own, le, s.fit.small); last = m.low (grow_in u); all = omega (arith, own, m.all) }

-- the greatest length is that under the greatest counts
pub greatest_measures : (u : Forest Resolved) (n : ℕ) → IsSound u → n ≡ sum_of greatest_number u → n ≡ sum_of (times (greatest_counts u)) u
greatest_measures u n s is = is ∙ sym (are_greatest u (greatest_counts u) s.numbered refl).length

-- a record has a byte
pub measures_some : (u : Forest Resolved) (counts : List ℕ) (n : ℕ) → IsSound u → TakeBytes u → n ≡ sum_of (times counts) u → 0 < n
measures_some u counts n s bytes is = omega (arith, is, length_some counts u u s bytes refl)
