-- References that stand where the sums of the tables say.
use Rattle.std.proofs.Common.{◌≡◌, ◌⊎◌, ℕ, ◌+◌, ◌-◌, ◌*◌, ◌<◌, ◌≤◌, ◌==◌, ◌&&◌, nat_le, min, max, Bool, true, false, List, [], ◌∷◌, length, map, take, refl, sym, ap, subst, ◌∙◌, arith, inl, inr, Option, Some, None, Ok, Result}
use Rattle.std.specs.Prelude.{slice_index, IfSome}
use Rattle.cob_copybook_tree.specs.Forests.{Forest, entries_in}
use Rattle.cob_copybook_tree.specs.Nodes.{Resolved}
use Rattle.cob_layout_places.specs.Agree.{OnePlace}
use Rattle.cob_layout_places.specs.declared.places.Found.{Found}
use Rattle.cob_layout_places.specs.declared.reference.Ref.{Ref}
use Rattle.cob_layout_places.specs.declared.spots.Spot.{Spot}
use Rattle.cob_layout_places.specs.declared.varying.Table.{Table}
use Rattle.cob_layout_places.specs.Counts.{tables_of}
use Rattle.cob_layout_places.specs.Lengths.{times}
use Rattle.cob_layout_places.specs.Needs.{NeedsAreRead, number_behind}
use Rattle.cob_layout_places.specs.References.{Refers}
use Rattle.cob_layout_places.specs.Spots.{spots_of}
use Rattle.cob_layout.specs.declared.counts.StoredCount.{StoredCount}
use Rattle.cob_layout.specs.declared.fields.Place.{Place}
use Rattle.cob_layout.specs.declared.footings.Footing.{Footing}
use Rattle.cob_layout.specs.declared.layout.PlaceFault.{PlaceFault}
use Rattle.cob_layout.specs.declared.shifts.Growth.{Growth}
use Rattle.cob_layout.specs.declared.shifts.Shift.{Shift}
use Rattle.cob_layout.specs.declared.summed.SummedPlace.{SummedPlace}
use Rattle.cob_layout.specs.declared.ways.Way.{Way}
use Rattle.cob_layout.specs.Counting.{NeededOf}
use Rattle.cob_layout.specs.Finding.{ReachIn, SparesNone}
use Rattle.cob_layout.specs.Footings.{first_by, footing_of, shift_at}
use Rattle.cob_layout.specs.Kept.{AreKeptOf, IsIn, IsStoredCount, counted}
use Rattle.cob_layout.specs.Placed.{element_under, placed}
use Rattle.cob_layout.specs.Shifts.{CanShift, FitsSums, grow_in, shifted_spot, sums_of}
use Rattle.cob_layout.specs.Sound.{IsSound}
use Rattle.cob_layout.specs.Summed.{HaveLeast, IsLeastOf, IsMovedBy, IsSummedBy, IsSummedPlace, MovesBy, displaced, summed_to}
use Rattle.cob_layout.specs.Ways.{first_element, held, held_at, held_in, moved, moved_once, spot_at}
use Rattle.cob_layout.proofs.ElementLemmas.{both_true, of_le}
use Rattle.cob_layout.proofs.FindLemmas.{MeetsBy, meets_by, stored_met}
use Rattle.cob_layout.proofs.FootingLemmas.{Asks, Rests, asks, rests}
use Rattle.cob_layout.proofs.NeedLemmas.{needs_below}
use Rattle.cob_layout.proofs.ReachLemmas.{Serves, needed_below, reach_sums, serves}
use Rattle.cob_layout.proofs.ReadLaw.{Known}
use Rattle.cob_layout.proofs.ReferenceLemmas.{refers_has}
use Rattle.cob_layout.proofs.RefreshLemmas.{numbers_kept}
use Rattle.cob_layout.proofs.ShiftLemmas.{Growing, all_at, all_stand, can_shift, summed}
use Rattle.cob_layout.proofs.SpotMoves.{end_moved}
use Rattle.cob_layout.proofs.StandingLemmas.{element_is}
use Rattle.cob_layout.proofs.SumLemmas.{shifted_there}
use Rattle.cob_layout.proofs.WayLaw.{reach_table_end}

-- ---- how far subscripts move an element

-- elements of a table are as long in every storage, or none of them stands before this one
pub moves_by : (s : Shift) (x : Spot) (least subscript always before further : ℕ) → ((count : ℕ) → least ≤ count → always ≤ max x.times (min count s.most)) → subscript ≤ always → before ≡ subscript - 1
    → (before ≡ 0) ⊎ (s.through ≡ s.before) → further ≡ before * x.length → MovesBy s x least subscript further
moves_by s x least subscript always before further occurs le are alike is = λ sums count f fits there enough.
    (let grown : ℕ = x.length + slice_index sums s.through - slice_index sums s.before in
    let at : (subscript - 1) * grown ≡ further = elim alike [
      | inl none ↦ (let left : (subscript - 1) * grown ≡ 0 * grown = ap (λ (n : ℕ). n * grown) (sym are ∙ none) in
          let right : before * x.length ≡ 0 * x.length = ap (λ (n : ℕ). n * x.length) none in
          omega (arith, left, right, is))
      | inr same ↦ (let long : grown ≡ x.length = omega (arith, ap (slice_index sums) same) in
          ap (λ (n : ℕ). (subscript - 1) * n) long ∙ ap (λ (n : ℕ). n * x.length) (sym are) ∙ sym is)
    ] in
    let offset : f.offset + (subscript - 1) * grown ≡ f.offset + further = ap (λ (n : ℕ). f.offset + n) at in
    let within : (f.within && nat_le subscript (max x.times (min count s.most))) ≡ true =
    both_true f.within (nat_le subscript (max x.times (min count s.most))) there (of_le subscript (max x.times (min count s.most)) (omega (arith, le, occurs count enough))) in
    λ i. record { offset = offset i; length = f.length; within = within i })

-- without subscripts it stays
pub unmoved : (t u : Forest Resolved) (ways : List Way) (r : Ref) (behind : ℕ) → IsSound t → t ≡ u → map held ways ≡ held_in [] t → Refers r.node r.subscripts.items u → length r.subscripts.items ≡ 0 → IsMovedBy u r behind 0
unmoved t u ways r behind sound eq held_are refers none = λ c have.
    (let spots : List Spot = spots_of (times c) u 0 0 in
    let first : Found = first_element spots r.node in
    let start : first.offset ≡ first.offset + 0 = omega arith in
    let same : first ≡ displaced 0 first = λ i. record { offset = start i; length = first.length; within = true } in
    element_is t u c spots ways r.node r.subscripts.items sound eq held_are refers refl
    ∙ ap (λ (f : Found). Some f) (end_moved spots (held_at (map held ways) r.node).tables r.subscripts.items first none ∙ same))

-- a table that varies has as many elements as it has at least
has_least : (t : Forest Resolved) (tables : List Table) (number behind least : ℕ) (c : List ℕ) → tables ≡ tables_of t → IsLeastOf tables number behind least → HaveLeast t behind c → least ≤ slice_index c number
has_least t tables number behind least c are (inl none) have = omega (arith, none)
has_least t tables number behind least c are (inr h) have =
    let (x, there, named, below, is) = h in
    let enough : x.least ≤ slice_index c x.number = have x (subst (IsIn x) are there) (omega (arith, named, below)) in
    omega (arith, enough, is, ap (slice_index c) named)

-- one subscript moves it by the elements before it
pub moved_one : (t u : Forest Resolved) (ways : List Way) (least : List Spot) (shifts : List Shift) (growths : List Growth) (tables : List Table) (r : Ref) (k s behind few further : ℕ)
    → IsSound t → t ≡ u → map held ways ≡ held_in [] t → Growing u least shifts growths → Refers r.node r.subscripts.items u → (held_at (map held ways) r.node).tables ≡ k ∷ [] → r.subscripts.items ≡ s ∷ [] → k < length shifts
    → tables ≡ tables_of u → IsLeastOf tables k behind few → MovesBy (shift_at shifts k) (spot_at least k) few s further → IsMovedBy u r behind further
moved_one t u ways least shifts growths tables r k s behind few further sound eq held_are grow refers one own lt are few_is moves = λ c have.
    (let sums : List ℕ = sums_of u c in
    let spots : List Spot = spots_of (times c) u 0 0 in
    let first : Found = first_element spots r.node in
    let no_shift : Shift = record { before = 0; through = 0; most = 0; only_moves = false } in
    let no_spot : Spot = record { offset = 0; length = 0; times = 0 } in
    let can : CanShift sums shifts least = can_shift u least shifts growths sums c grow refl in
    let fits : FitsSums sums (shift_at shifts k) = all_at (FitsSums sums) shifts k no_shift lt can.within in
    let spot : spot_at spots k ≡ shifted_spot sums (slice_index c k) (shift_at shifts k) (spot_at least k) =
    ap (λ (ss : List Spot). spot_at ss k) (sym (all_stand u least shifts growths sums c grow refl))
    ∙ sym (shifted_there sums c k (slice_index c k) shifts least no_shift no_spot no_spot refl lt can.as_many) in
    let once : moved_once first (spot_at spots k) s ≡ displaced further first =
    ap (λ (x : Spot). moved_once first x s) spot ∙ moves sums (slice_index c k) first fits refl (has_least u tables k behind few c are few_is have) in
    let all : moved spots (held_at (map held ways) r.node).tables r.subscripts.items first ≡ moved_once first (spot_at spots k) s = λ i. moved spots (one i) (own i) first in
    element_is t u c spots ways r.node r.subscripts.items sound eq held_are refers refl ∙ ap (λ (f : Found). Some f) (all ∙ once))

pub moved_ones : (t u : Forest Resolved) (ways : List Way) (least : List Spot) (shifts : List Shift) (growths : List Growth) (tables : List Table) (r : Ref) (k s behind few : ℕ) (result : Option ℕ)
    → IsSound t → t ≡ u → map held ways ≡ held_in [] t → Growing u least shifts growths → Refers r.node r.subscripts.items u → (held_at (map held ways) r.node).tables ≡ k ∷ [] → r.subscripts.items ≡ s ∷ [] → k < length shifts
    → tables ≡ tables_of u → IsLeastOf tables k behind few → IfSome result (MovesBy (shift_at shifts k) (spot_at least k) few s) → IfSome result (IsMovedBy u r behind)
moved_ones t u ways least shifts growths tables r k s behind few None sound eq held_are grow refers one own lt are few_is moves = tt
moved_ones t u ways least shifts growths tables r k s behind few (Some further) sound eq held_are grow refers one own lt are few_is moves =
    moved_one t u ways least shifts growths tables r k s behind few further sound eq held_are grow refers one own lt are few_is moves

-- ---- where a reference stands by the sums

pub summed_place : (u : Forest Resolved) (ways : List Way) (least : List Spot) (shifts : List Shift) (growths : List Growth) (tables : List Table) (r : Ref) (receiving : Bool) (f : Footing) (further : ℕ) (p : SummedPlace)
    → Growing u least shifts growths → Known u ways tables r.node → r.node < length shifts → f ≡ footing_of ways shifts least r.node → (receiving && f.spares) ≡ false → IsMovedBy u r f.behind further → IsSummedBy f further p
    → IsSummedPlace u r receiving p
summed_place u ways least shifts growths tables r receiving f further p grow known lt is spares moves by =
    let last : Bool = receiving && (number_behind false r.node u == entries_in u) in
    let end : number_behind true r.node u ≡ p.behind =
    reach_table_end u (map held ways) r.node known.sound.numbered known.ways_are known.has ∙ sym (ap (λ (g : Footing). g.behind) is) ∙ sym by.behind in
    let asked : Asks u r.node receiving f.behind = asks u ways shifts least r.node receiving f.behind f tables known is (omega arith) spares in
    let so : (c : List ℕ) → Rests shifts least (sums_of u c) c r.node f = λ c. rests ways shifts least (sums_of u c) c r.node f (can_shift u least shifts growths (sums_of u c) c grow refl) lt is in
    let fits : FitsSums (sums_of u []) f.shift = (so []).within in
    let long : length (sums_of u []) ≡ grow_in u + 1 = (summed u [] grow.sound).long in
    record {
      behind = end;
      spares = subst (λ (n : ℕ). SparesNone n last r.node) end asked.spares;
      before = omega (arith, fits.there.0, long, by.before);
      through = omega (arith, fits.there.1, long, by.through);
      rises = λ c. omega (arith, (so c).within.rises, ap (slice_index (sums_of u c)) by.before, ap (slice_index (sums_of u c)) by.through);
      stands = λ c have.
          (let sums : List ℕ = sums_of u c in
          let first : first_by sums f ≡ first_element (spots_of (times c) u 0 0) r.node =
          (so c).first ∙ ap (λ (ss : List Spot). first_element ss r.node) (all_stand u least shifts growths sums c grow refl) in
          let offset : f.least.offset + slice_index sums f.shift.before + further ≡ p.offset + slice_index sums p.before = omega (arith, by.offset, ap (slice_index sums) by.before) in
          let size : f.least.length + slice_index sums f.shift.through - slice_index sums f.shift.before ≡ p.length + slice_index sums p.through - slice_index sums p.before =
          omega (arith, by.length, ap (slice_index sums) by.before, ap (slice_index sums) by.through) in
          moves c (λ x there below. have x there (omega (arith, below, by.behind)))
          ∙ ap (λ (e : Found). Some (displaced further e)) (sym first)
          ∙ (λ i. Some (record { offset = offset i; length = size i; within = true })));
    }

pub summed_places : (u : Forest Resolved) (ways : List Way) (least : List Spot) (shifts : List Shift) (growths : List Growth) (tables : List Table) (r : Ref) (receiving : Bool) (f : Footing) (further : ℕ) (result : Option SummedPlace)
    → Growing u least shifts growths → Known u ways tables r.node → r.node < length shifts → f ≡ footing_of ways shifts least r.node → (receiving && f.spares) ≡ false → IsMovedBy u r f.behind further → IfSome result (IsSummedBy f further)
    → IfSome result (IsSummedPlace u r receiving)
summed_places u ways least shifts growths tables r receiving f further None grow known lt is spares moves by = tt
summed_places u ways least shifts growths tables r receiving f further (Some p) grow known lt is spares moves by = summed_place u ways least shifts growths tables r receiving f further p grow known lt is spares moves by

-- ---- by the counts that are kept

least_of_count : (t : Forest Resolved) (bytes : List ℕ) (x : Table) (v : ℕ) → IsStoredCount t bytes x v → x.least ≤ v
least_of_count t bytes x v (counted _ _ c before beside is) = is.says.1.least

-- the sums are those of the counts, where these reach so far
pub sums_within : NeedsAreRead → (u : Forest Resolved) (r : Ref) (receiving : Bool) (p : SummedPlace) (reach : ℕ) (e sums : List ℕ) (ks : List (Option StoredCount)) → IsSound u → Refers r.node r.subscripts.items u → IsSummedPlace u r receiving p
    → p.behind ≤ reach → ReachIn u reach e sums ks → take (grow_in u + 1) sums ≡ sums_of u e
sums_within read u r receiving p reach e sums ks sound refers is le known =
    let has = refers_has r.node r.subscripts.items u refers in
    reach_sums u reach e sums ks known (omega (arith, needs_below read u r.node r.node sound.numbered has has (inr (inl refl)), is.behind, le))

-- and where they say, the reference stands in the storage of which counts are kept
pub found_by_sums : NeedsAreRead → OnePlace → (u : Forest Resolved) (r : Ref) (receiving : Bool) (bytes : List ℕ) (p : SummedPlace) (reach : ℕ) (e sums : List ℕ) (ks : List (Option StoredCount)) → IsSound u
    → Refers r.node r.subscripts.items u → length ks ≡ length (tables_of u) → AreKeptOf u bytes ks → IsSummedPlace u r receiving p → p.behind ≤ reach → ReachIn u reach e sums ks
    → (c : List ℕ) × NeededOf u r.node receiving bytes (Ok c) × (element_under c u r ≡ Some (summed_to p (sums_of u e)))
found_by_sums read place u r receiving bytes p reach e sums ks sound refers long keeps is le known =
    let last : Bool = receiving && (number_behind false r.node u == entries_in u) in
    let spares : SparesNone (number_behind true r.node u) last r.node = subst (λ (n : ℕ). SparesNone n last r.node) (sym is.behind) is.spares in
    let so : Serves u r.node receiving e sums ks =
    serves read u r.node r.node receiving r.subscripts.items (number_behind true r.node u) reach last e sums ks sound refers refl refl refl (omega (arith, is.behind, le)) spares known in
    let m : MeetsBy u bytes r.node receiving ks e = meets_by read place u bytes r.node receiving r.subscripts.items ks e sound refers long keeps so.met in
    let have : HaveLeast u p.behind e = λ x there below.
    least_of_count u bytes x (slice_index e x.number)
    (stored_met u bytes (number_behind true r.node u) last r.node e (tables_of u) ks x (numbers_kept u bytes ks long keeps) so.met there (needed_below (number_behind true r.node u) r.node last x spares (omega (arith, is.behind, below)))) in
    (m.counts, m.needed, sym (m.place r.subscripts.items) ∙ is.stands e have)

-- the place of an element that is there
pub place_of_found : (f : Found) → f.within ≡ true → ◌≡◌ {A = Result Place PlaceFault} (Ok (record { offset = f.offset; length = f.length })) (placed f)
place_of_found f there = by f.within there
  where
    by : (b : Bool) → b ≡ true → ◌≡◌ {A = Result Place PlaceFault} (Ok (record { offset = f.offset; length = f.length })) (placed (record { offset = f.offset; length = f.length; within = b }))
    by true e = refl
    by false e = absurd (cc)
