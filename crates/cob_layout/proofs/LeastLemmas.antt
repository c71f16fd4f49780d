-- No element of an entry begins before the first one does while the tables that vary have none.
use Rattle.std.proofs.Common.{◌≡◌, ℕ, ◌+◌, ◌-◌, ◌*◌, ◌≤◌, false, List, [], ◌∷◌, length, map, refl, sym, ap, subst, ◌∙◌, arith, Option, Some}
use Rattle.std.specs.Prelude.{slice_index}
use Rattle.cob_copybook_tree.specs.Forests.{Forest, entries_in}
use Rattle.cob_copybook_tree.specs.Nodes.{Resolved}
use Rattle.cob_layout_places.specs.declared.places.Found.{Found}
use Rattle.cob_layout_places.specs.declared.spots.Spot.{Spot}
use Rattle.cob_layout_places.specs.Lengths.{times}
use Rattle.cob_layout_places.specs.Places.{place_of}
use Rattle.cob_layout_places.specs.References.{Refers}
use Rattle.cob_layout_places.specs.Spots.{spots_of}
use Rattle.cob_layout.specs.declared.shifts.Growth.{Growth}
use Rattle.cob_layout.specs.declared.shifts.Shift.{Shift}
use Rattle.cob_layout.specs.declared.ways.Way.{Way}
use Rattle.cob_layout.specs.Footings.{shift_at}
use Rattle.cob_layout.specs.Shifts.{shifted_spot, sums_of}
use Rattle.cob_layout.specs.Sound.{IsSound}
use Rattle.cob_layout.specs.Ways.{first_element, held, held_at, held_in, moved, moved_once, spot_at}
use Rattle.cob_layout.proofs.ReferenceLemmas.{has_below, refers_has}
use Rattle.cob_layout.proofs.ShiftLemmas.{Growing, all_stand, as_many_shifts, can_shift}
use Rattle.cob_layout.proofs.StandingLemmas.{element_is}
use Rattle.cob_layout.proofs.SumLemmas.{shifted_there}

abbrev no_spot : Spot
no_spot = record { offset = 0; length = 0; times = 0 }

abbrev no_shift : Shift
no_shift = record { before = 0; through = 0; most = 0; only_moves = false }

-- subscripts move an element further on
moved_on : (spots : List Spot) (ts subscripts : List ℕ) (f : Found) → f.offset ≤ (moved spots ts subscripts f).offset
moved_on spots [] subscripts f = omega arith
moved_on spots (t ∷ ts) [] f = omega arith
moved_on spots (t ∷ ts) (s ∷ subscripts) f =
    let once : f.offset ≤ (moved_once f (spot_at spots t) s).offset = omega arith in
    omega (arith, once, moved_on spots ts subscripts (moved_once f (spot_at spots t) s))

some_is : (a b : Found) → Some a ≡ Some b → a ≡ b
some_is a b e = cc

pub begins_behind : (t u : Forest Resolved) (ways : List Way) (least : List Spot) (shifts : List Shift) (growths : List Growth) (counts : List ℕ) (r : ℕ) (subscripts : List ℕ) (f : Found)
    → IsSound t → t ≡ u → map held ways ≡ held_in [] t → Growing u least shifts growths → Refers r subscripts u → place_of (times counts) r u 0 0 subscripts ≡ Some f
    → (spot_at least r).offset ≤ f.offset
begins_behind t u ways least shifts growths counts r subscripts f sound eq held_are g refers at =
    let sums : List ℕ = sums_of u counts in
    let spots : List Spot = spots_of (times counts) u 0 0 in
    let tables : List ℕ = (held_at (map held ways) r).tables in
    let lt = has_below 0 r u g.sound.numbered (refers_has r subscripts u refers) in
    let many = as_many_shifts u least shifts growths g in
    let can = can_shift u least shifts growths sums counts g refl in
    let own : spot_at spots r ≡ shifted_spot sums (slice_index counts r) (shift_at shifts r) (spot_at least r) =
    ap (λ (ss : List Spot). spot_at ss r) (sym (all_stand u least shifts growths sums counts g refl))
    ∙ sym (shifted_there sums counts r (slice_index counts r) shifts least no_shift no_spot no_spot refl (omega (arith, lt, many)) can.as_many) in
    let first : (spot_at least r).offset ≤ (first_element spots r).offset = omega (arith, ap (λ (s : Spot). s.offset) own) in
    let here : moved spots tables subscripts (first_element spots r) ≡ f =
    some_is (moved spots tables subscripts (first_element spots r)) f (sym (element_is t u counts spots ways r subscripts sound eq held_are refers refl) ∙ at) in
    omega (arith, first, moved_on spots tables subscripts (first_element spots r), ap (λ (e : Found). e.offset) here)
