-- What the places of a record's entries rest on, and what follows for references to them.
use Rattle.std.proofs.Common.{◌≡◌, ◌⊎◌, ℕ, ◌+◌, ◌-◌, ◌<◌, ◌≤◌, ◌==◌, ◌&&◌, nat_lt, Bool, true, false, List, [], length, map, refl, sym, ap, subst, ◌∙◌, arith, inl, inr}
use Rattle.std.specs.Prelude.{slice_index, slice_index_or}
use Rattle.std.proofs.lemmas.Bool.Decides.{nat_tests}
use Rattle.std.proofs.lemmas.List.{length-map}
use Rattle.cob_copybook_tree.specs.Forests.{Forest, entries_in}
use Rattle.cob_copybook_tree.specs.Nodes.{Resolved}
use Rattle.cob_layout_places.specs.declared.spots.Spot.{Spot}
use Rattle.cob_layout_places.specs.declared.varying.Table.{Table}
use Rattle.cob_layout_places.specs.Needs.{number_behind}
use Rattle.cob_layout_places.specs.References.{Refers}
use Rattle.cob_layout.specs.declared.footings.Footing.{Footing}
use Rattle.cob_layout.specs.declared.shifts.Shift.{Shift}
use Rattle.cob_layout.specs.declared.ways.Way.{Way}
use Rattle.cob_layout.specs.Finding.{SparesNone}
use Rattle.cob_layout.specs.Footings.{AreFootings, first_by, footing_of}
use Rattle.cob_layout.specs.Shifts.{all_shifted, shifts_from, CanShift, FitsSums}
use Rattle.cob_layout.specs.Sound.{IsSound}
use Rattle.cob_layout.specs.Ways.{end_of_table, first_element, held, held_at, held_in}
use Rattle.cob_layout.proofs.ReadLaw.{Known, last_is}
use Rattle.cob_layout.proofs.ReferenceLemmas.{has_below, refers_has}
use Rattle.cob_layout.proofs.ShiftLaw.{length_shifts}
use Rattle.cob_layout.proofs.ShiftLemmas.{all_at}
use Rattle.cob_layout.proofs.SpotLaw.{length_held}
use Rattle.cob_layout.proofs.SumLemmas.{shifted_there}
use Rattle.cob_layout.proofs.WayLaw.{reach_table_end}

-- ---- where an entry stands

-- What is known of what the place of an entry rests on, where these sums shift the spots of a record: so its first element stands.
pub record Rests (shifts : List Shift) (least : List Spot) (sums counts : List ℕ) (r : ℕ) (f : Footing) : Type 0 where
  pub within : FitsSums sums f.shift
  pub small : f.least.offset + f.least.length ≤ 32752
  pub first : first_by sums f ≡ first_element (all_shifted sums counts 0 shifts least) r

pub rests : (ways : List Way) (shifts : List Shift) (least : List Spot) (sums counts : List ℕ) (r : ℕ) (f : Footing) → CanShift sums shifts least → r < length shifts → f ≡ footing_of ways shifts least r
    → Rests shifts least sums counts r f
rests ways shifts least sums counts r f can lt is =
    let s : Shift = record { before = 0; through = 0; most = 0; only_moves = false } in
    let x : Spot = record { offset = 0; length = 0; times = 0 } in
    record {
      within = subst (λ (g : Footing). FitsSums sums g.shift) (sym is) (all_at (FitsSums sums) shifts r s lt can.within);
      small = subst (λ (g : Footing). g.least.offset + g.least.length ≤ 32752) (sym is) (all_at (λ (l : Spot). l.offset + l.length ≤ 32752) least r x (omega (arith, lt, can.as_many)) can.small);
      first = ap (first_by sums) is
          ∙ ap (λ (l : Spot). record { offset = l.offset; length = l.length; within = true }) (shifted_there sums counts r (slice_index counts r) shifts least s x x refl lt can.as_many);
    }

-- ---- an entry that a reference names

-- What is known of such an entry, where these are a record's ways, shifts and least spots: there is what its place rests on.
pub record Named (ways : List Way) (shifts : List Shift) (least : List Spot) (footings : List Footing) (r : ℕ) : Type 0 where
  pub there : r < length footings
  pub shift : r < length shifts
  pub is : (d : Footing) → slice_index_or footings r d ≡ footing_of ways shifts least r

pub named : (t u : Forest Resolved) (ways : List Way) (shifts : List Shift) (least : List Spot) (footings items : List Footing) (r : ℕ) (subscripts : List ℕ) → t ≡ u → IsSound t → Refers r subscripts u
    → map held ways ≡ held_in [] t → shifts ≡ shifts_from 0 t → footings ≡ items → AreFootings ways shifts least items → Named ways shifts least footings r
named t u ways shifts least footings items r subscripts seen s refers are shifts_are is all =
    let own : Refers r subscripts t = subst (λ (v : Forest Resolved). Refers r subscripts v) (sym seen) refers in
    let lt : r < 0 + entries_in t = has_below 0 r t s.numbered (refers_has r subscripts t own) in
    let long : length ways ≡ entries_in t = sym (length-map ways held) ∙ ap length are ∙ length_held [] t in
    record {
      there = omega (arith, lt, long, all.as_many, ap length is);
      shift = omega (arith, lt, ap length shifts_are, length_shifts 0 t);
      is = λ d. ap (λ (fs : List Footing). slice_index_or fs r d) is ∙ all.each r d (omega (arith, lt, long));
    }

spares_none : (a b : Bool) (behind r : ℕ) → (a && (b && nat_lt 1 (behind - r))) ≡ false → ((a && b) ≡ false) ⊎ (behind ≤ r + 1)
spares_none false b behind r h = inl refl
spares_none true false behind r h = inl refl
spares_none true true behind r h = inr (grind (arith, nat_tests))

-- Which counts it needs is known of what its place rests on.
pub record Asks (t : Forest Resolved) (r : ℕ) (receiving : Bool) (reach : ℕ) : Type 0 where
  pub behind : number_behind true r t ≤ reach
  pub spares : SparesNone (number_behind true r t) (receiving && (number_behind false r t == entries_in t)) r

pub asks : (t : Forest Resolved) (ways : List Way) (shifts : List Shift) (least : List Spot) (r : ℕ) (receiving : Bool) (reach : ℕ) (f : Footing) (tables : List Table) → Known t ways tables r → f ≡ footing_of ways shifts least r
    → f.behind ≤ reach → (receiving && f.spares) ≡ false → Asks t r receiving reach
asks t ways shifts least r receiving reach f tables k is le own =
    let end : number_behind true r t ≡ end_of_table (map held ways) r = reach_table_end t (map held ways) r k.sound.numbered k.ways_are k.has in
    let last : Bool = (held_at (map held ways) r).end == length ways in
    let none : (receiving && (last && nat_lt 1 (end_of_table (map held ways) r - r))) ≡ false = ap (λ (g : Footing). receiving && g.spares) (sym is) ∙ own in
    record {
      behind = omega (arith, end, ap (λ (g : Footing). g.behind) is, le);
      spares = elim (spares_none receiving last (end_of_table (map held ways) r) r none) [
        | inl plain ↦ inl (sym (last_is t ways tables r receiving k) ∙ plain)
        | inr few ↦ inr (omega (arith, few, end))
      ];
    }
