use Rattle.std.proofs.Common.{◌≡◌, ℕ, List, length, None, replicate, refl, sym, ap, subst, ◌∙◌, arith}
use Rattle.cob_copybook_tree.specs.Forests.{Tree, NoEntries, AnEntry}
use Rattle.cob_copybook_tree.specs.Nodes.{Resolved, tree_of}
use Rattle.cob_copybook_tree.specs.Lengths.{greatest_number, sum_of}
use Rattle.cob_copybook.specs.Books.{IsRecordDescription}
use Rattle.cob_layout_places.specs.Lengths.{times}
use Rattle.cob_layout_places.specs.Counts.{tables_of}
use Rattle.cob_layout_places.specs.Spots.{spots_of}
use Rattle.cob_layout_places.proofs.SpotLemmas.{length_spots}
use Rattle.cob_layout_places.specs.declared.spots.Spot.{Spot}
use Rattle.cob_layout_places.specs.declared.varying.Table.{Table}
use Rattle.cob_layout.specs.Shifts.{growths_from}
use Rattle.cob_layout.specs.Standing.{Standing}
use Rattle.cob_layout.proofs.GreatestLemmas.{greatest_is, length_in_order}
use Rattle.cob_layout.proofs.RecordLemmas.{new_room}
use Rattle.cob_layout.proofs.ShiftLemmas.{grow_few}
use Rattle.cob_layout.proofs.layout.Layout.of.Goals as goal

pub invariant_of-result : goal.invariant_of-result
invariant_of-result c =
    let t = tree_of c.in_ok-root.root in
    let same : t ≡ c.args.book.now = ap (λ (n : Tree Resolved). AnEntry n.top n.beneath NoEntries) c.in_ok-root.ensures.same ∙ c.root.ensures.tree in
    let is : IsRecordDescription t = subst IsRecordDescription (sym same) c.root.ensures.record in
    let sound = c.records_are_sound.ensures t is in
    let made = c.in_ok-counts.ensures in
    let counts = ap (λ (x : Standing). x.counts) made ∙ c.in_ok-in_order.ensures ∙ sym (greatest_is t sound.numbered) in
    let spots = ap (λ (x : Standing). x.spots) made ∙ c.in_ok-spots.ensures ∙ ap (λ (cs : List ℕ). spots_of (times cs) t 0 0) (c.deref.ensures.value ∙ c.in_ok-in_order.ensures ∙ sym (greatest_is t sound.numbered)) in
    let all : c.deref-3.result.now ≡ tables_of t = c.deref-3.ensures.value ∙ c.in_ok-tables.ensures in
    let kept = ap (λ (x : Standing). x.kept) made ∙ ap (λ (xs : List Table). replicate (length xs) None) all in
    let grow = c.in_ok-put_shifts.ensures.growths ∙ ap (λ (ls : List Spot). growths_from ls 0 t) c.deref-2.ensures.value in
    let room = new_room t t c.in_ok-counts.counts sound refl counts kept (ap (λ (x : Standing). x.tables) made ∙ all)
    (ap (λ (x : Standing). x.growths) made ∙ c.deref-4.ensures.value ∙ grow ∙ ap (λ (ls : List Spot). growths_from ls 0 t) c.in_ok-least.ensures) in
    (is, sound, c.in_ok-tables.ensures, counts, c.greatest-greatest.ensures.value ∙ ap (sum_of greatest_number) (sym same), c.in_ok-root.ensures.bytes, c.in_ok-ways.ensures, spots, c.in_ok-kinds.ensures, kept, c.in_ok-least.ensures, c.in_ok-put_shifts.ensures.shifts, grow, room, rw (c.deref-5.ensures.value, c.deref-6.ensures.value, c.deref-7.ensures.value) at c.in_ok-footings.ensures, rw (c.deref-8.ensures.value, c.deref-9.ensures.value, c.spots.ensures) at c.lone_of-lone.ensures)

pub ways-requires-clause-end : goal.ways-requires-clause-end
ways-requires-clause-end c =
    let t = tree_of c.in_ok-root.root in
    omega (arith, c.len-entries.ensures, c.deref.ensures.len, ap length (c.deref.ensures.value ∙ c.in_ok-in_order.ensures), length_in_order t)

pub new_spots-requires-clause-room : goal.new_spots-requires-clause-room
new_spots-requires-clause-room c =
    let t = tree_of c.in_ok-root.root in
    omega (arith, c.len-entries.ensures, c.deref.ensures.len, ap length (c.deref.ensures.value ∙ c.in_ok-in_order.ensures), length_in_order t)

pub new_spots-requires-2-clause-room : goal.new_spots-requires-2-clause-room
new_spots-requires-2-clause-room c =
    let t = tree_of c.in_ok-root.root in
    omega (arith, c.len-entries.ensures, c.deref.ensures.len, ap length (c.deref.ensures.value ∙ c.in_ok-in_order.ensures), length_in_order t)

pub new-requires : goal.new-requires
new-requires c =
    let t = tree_of c.in_ok-root.root in
    record { spots = ap length c.in_ok-spots.ensures ∙ length_spots _ t 0 0 ∙ sym (ap length c.in_ok-in_order.ensures ∙ length_in_order t) }

pub put_shifts-requires-clause-small : goal.put_shifts-requires-clause-small
put_shifts-requires-clause-small c =
    let t = tree_of c.in_ok-root.root in
    omega (arith, grow_few t, ap length c.in_ok-in_order.ensures, length_in_order t, c.in_ok-in_order.in_order.small, c.in_ok-in_order.in_order.ok)
