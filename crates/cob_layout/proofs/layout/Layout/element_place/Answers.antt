use Rattle.std.proofs.Common.{◌≡◌, ◌∷◌, ◌∙◌, [], List, Bool, Ok, Some, ap, arith, inl, map, refl, subst, sym, length, ◌<◌}
use Rattle.std.specs.Prelude.{option_map}
use Rattle.cob_copybook_tree.specs.Forests.{Forest}
use Rattle.cob_copybook_tree.specs.Nodes.{Resolved, tree_of}
use Rattle.cob_layout_places.specs.declared.varying.Table.{Table}
use Rattle.cob_layout_places.specs.Counts.{tables_of}
use Rattle.cob_layout_places.specs.Lengths.{times}
use Rattle.cob_layout_places.specs.Needs.{keep}
use Rattle.cob_layout_places.specs.Places.{place_of}
use Rattle.cob_layout.specs.Counting.{greatest_counts}
use Rattle.cob_layout.specs.Elements.{RestsOn}
use Rattle.cob_layout.specs.Kept.{IsIn}
use Rattle.cob_layout.specs.Placed.{placed}
use Rattle.cob_layout.specs.Sound.{IsSound}
use Rattle.cob_layout.specs.Ways.{held, held_at}
use Rattle.cob_layout.proofs.ElementLemmas.{asked_as, first_number_is, stands_still}
use Rattle.cob_layout.proofs.GreatestLemmas.{greatest_length}
use Rattle.cob_layout.proofs.ReferenceLemmas.{has_below, refers_has}
use Rattle.cob_layout.proofs.ShiftLemmas.{Growing, as_many_shifts, growing_as}
use Rattle.cob_layout.proofs.TakingLemmas.{number_below}
use Rattle.cob_layout.proofs.layout.Layout.element_place.Goals as goal

pub needed_by-needed-requires : goal.needed_by-needed-requires
needed_by-needed-requires c = record { there = refers_has c.args.reference.now.node c.args.reference.now.subscripts.items c.args.self.now c.requires.refers }

pub returns-in-Ok : goal.returns-in-Ok
returns-in-Ok c =
    let t = tree_of c.self.inside.root in
    let u = c.args.self.now in
    let ways = c.self.inside.ways.items in
    let shifts = c.self.inside.shifts.items in
    let least = c.self.inside.least.items in
    let growths = c.self.inside.growths.items in
    let r = c.args.reference.now.node in
    let subscripts = c.args.reference.now.subscripts.items in
    let x : Table = c.in_ok-table.table in
    let (others, cut, asked, none) = c.in_ok-table.ensures in
    let sound : IsSound u = subst IsSound c.self.view_is c.self.invariant.1 in
    let first : tables_of u ≡ x ∷ others = sym (c.deref.ensures.value ∙ c.self.invariant.2 ∙ ap (λ (v : Forest Resolved). tables_of v) c.self.view_is) ∙ cut in
    let same = asked_as u r c.args.receiving c.needed_by-needed.result c.needed_by-needed.ensures.behind c.needed_by-needed.ensures.last c.needed_by-needed.ensures.number in
    let in_them : IsIn x (tables_of u) = subst (λ (xs : List Table). IsIn x xs) (sym first) (inl refl) in
    let g : Growing u least shifts growths = growing_as t u least least shifts growths c.self.view_is c.self.invariant.1 refl c.self.invariant.10 c.self.invariant.11 c.self.invariant.12 in
    let below = number_below u x (length shifts) sound in_them (as_many_shifts u least shifts growths g) in
    let has = has_below 0 r u sound.numbered (refers_has r subscripts u c.requires.refers) in
    let (rest, are) = first_number_is c.as_slice.result.now subscripts c.in_ok-least.least.now c.as_slice.ensures.value c.in_ok-least.ensures.value in
    let tables : c.tables_at-tables.result.now ≡ (held_at (map held ways) r).tables = rw c.deref-2.ensures.value at c.tables_at-tables.ensures in
    let rests : RestsOn shifts c.tables_at-tables.result.now x.number r = rw c.deref-3.ensures.value at (c.if-not-rests_on.ensures refl) in
    let at : option_map placed (place_of (times (greatest_counts u)) r u 0 0 subscripts) ≡ Some (Ok c.in-Ok.place) =
    subst (λ (ns : List _). option_map placed (place_of (times ns) r u 0 0 subscripts) ≡ Some (Ok c.in-Ok.place)) (c.self.invariant.3 ∙ ap (λ (v : Forest Resolved). greatest_counts v) c.self.view_is) c.in-Ok.ensures.value in
    record {
      table = x;
      others = others;
      first = first;
      reads = sym (ap (λ (f : Table → Bool). f x) same) ∙ asked;
      alone = subst (λ (f : Table → Bool). keep f others ≡ []) same none;
      stands = λ v le most.
          stands_still t u ways least shifts growths (greatest_counts u) r x.number v c.in_ok-least.least.now c.tables_at-tables.result.now subscripts c.in-Ok.place c.self.invariant.1 c.self.view_is c.self.invariant.6 g c.requires.refers tables rests
          below (omega (arith, below, greatest_length u sound.numbered, as_many_shifts u least shifts growths g)) (omega (arith, has, as_many_shifts u least shifts growths g)) rest are le at;
      within = c.in-Ok.ensures.fits;
    }
