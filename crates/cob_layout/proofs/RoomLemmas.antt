-- Counts that are written in place of others, with room for them.
use Rattle.std.proofs.Common.{◌≡◌, ◌++◌, ◌∙◌, ℕ, List, [], ◌∷◌, Ok, Result, ap, sym, subst, take, length, arith}
use Rattle.cob_copybook_tree.specs.Forests.{Forest}
use Rattle.cob_copybook_tree.specs.Nodes.{Resolved}
use Rattle.cob_layout_places.specs.declared.counts.CountFault.{CountFault}
use Rattle.cob_layout_places.specs.declared.spots.Spot.{Spot}
use Rattle.cob_layout_places.specs.declared.varying.Table.{Table}
use Rattle.cob_layout_places.specs.Counts.{tables_of, Taken}
use Rattle.cob_layout_places.specs.Lengths.{times}
use Rattle.cob_layout_places.specs.Spots.{spots_of}
use Rattle.cob_layout.specs.Counting.{greatest_counts, CountsOf}
use Rattle.cob_layout.specs.Standing.{IsRoomFor, Standing}
use Rattle.cob_layout.proofs.RefreshLemmas.{front_of}

-- these counts were written, with the spots under them
pub record Written (u : Forest Resolved) (taken : List ℕ) (spots : List Spot) (counts : List ℕ) : Type 0 where
  pub counts_are : taken ≡ counts
  pub spots_are : spots ≡ spots_of (times taken) u 0 0

pub written : (u : Forest Resolved) (many room places : ℕ) (counts next taken behind rest : List ℕ) (spots others : List Spot) → length counts ≡ many → length taken ≡ room → length spots ≡ places
    → next ≡ take many (counts ++ behind) → taken ≡ next → spots ≡ spots_of (times next) u 0 0
    → Written u (take room (taken ++ rest)) (take places (spots ++ others)) counts
written u many room places counts next taken behind rest spots others long_counts long_taken long_spots came is stands =
    let same : take room (taken ++ rest) ≡ next = front_of room taken rest long_taken ∙ is in
    record {
      counts_are = same ∙ came ∙ front_of many counts behind long_counts;
      spots_are = front_of places spots others long_spots ∙ stands ∙ ap (λ (cs : List ℕ). spots_of (times cs) u 0 0) (sym same);
    }

-- there is room where there was as much
pub room_still : (u : Forest Resolved) (before after : Standing) → IsRoomFor u before → length after.counts ≡ length before.counts → length after.kept ≡ length before.kept → after.tables ≡ before.tables
    → after.growths ≡ before.growths → IsRoomFor u after
room_still u before after room counts kept tables growths = (λ i. record { entries = counts i; tables = kept i; varying = tables i; growths = growths i }) ∙ room

-- where no table varies, all bytes give the greatest counts
pub none_taken : (u : Forest Resolved) (bytes : List ℕ) (xs : List Table) (counts : List ℕ) → xs ≡ tables_of u → length xs ≡ 0 → counts ≡ greatest_counts u → CountsOf u bytes (Ok counts)
none_taken u bytes [] counts all none is =
    let same : ◌≡◌ {A = Result (List ℕ) CountFault} (Ok counts) (Ok (greatest_counts u)) = ap (λ (d : List ℕ). Ok d) is in
    subst (λ (ys : List Table). Taken u bytes ys (greatest_counts u) (Ok counts)) all same
none_taken u bytes (x ∷ xs) counts all none is = absurd (omega (arith, none))
