use Rattle.std.proofs.Common.{rules, ◌≡◌, ap, ◌∙◌, length, arith, Err, None, replicate, ◌++◌, ℕ, List, drop, take, subst, sym, refl}
use Rattle.std.specs.Prelude.{IfErr}
use Rattle.std.proofs.lemmas.List.{length-replicate}
use Rattle.cob_copybook_tree.specs.Forests.{entries_in}
use Rattle.cob_copybook_tree.specs.Nodes.{node, tree_of}
use Rattle.cob_layout_places.proofs.PlaceLemmas.{entry_fits}
use Rattle.cob_layout.specs.Standing.{Standing, are_unkept, IsRoomFor}
use Rattle.cob_layout.proofs.RefreshLemmas.{unkept, front_of}
use Rattle.cob_layout.proofs.RecordLemmas.{number_below, room_entries, slots_for}
use Rattle.cob_layout_places.specs.Counts.{tables_of, Taken}
use Rattle.cob_layout_places.specs.Needs.{needed_tables}
use Rattle.cob_layout.specs.Counting.{greatest_counts}
use Rattle.cob_layout.proofs.NeedLemmas.{front_is, zeros_are, needed_at, needed_err}
use Rattle.std.proofs.lemmas.Result.{err_from_is_err_and}
use Rattle.cob_layout_places.specs.declared.spots.Spot.{Spot}
use Rattle.cob_layout.proofs.RangeLemmas.{none_within}
use Rattle.cob_layout.proofs.RoomLemmas.{room_still, Written, written}
use Rattle.cob_layout.proofs.layout.Layout.needed.Goals as goal

pub take_needed-requires-clause-fit : goal.take_needed-requires-clause-fit
take_needed-requires-clause-fit c = entry_fits 0 (node c.self.inside.root).top (node c.self.inside.root).beneath c.self.invariant.1.fit

pub take_needed-requires-clause-slots : goal.take_needed-requires-clause-slots
take_needed-requires-clause-slots c =
    let t = tree_of c.self.inside.root in
    let e = ap (λ u. entries_in u) c.self.view_is in
    let n : length c.deref_mut.result.now ≡ entries_in t
    = omega (arith, e, ap length c.deref_mut.ensures.value, ap length (c.fill.ensures.items (λ y e. e)) ∙ length-replicate _ 0, c.counts.inside.next.ok.0, c.counts.invariant.1, ap (λ (s : Standing). length s.counts) c.counts.view_is, room_entries c.args.self.now c.args.counts.now c.requires.room) in
    slots_for t c.deref.result.now (length c.deref_mut.result.now) c.self.invariant.1 (c.deref.ensures.value ∙ c.self.invariant.2) n

pub take_needed-requires-clause-there : goal.take_needed-requires-clause-there
take_needed-requires-clause-there c =
    let t = tree_of c.self.inside.root in
    let e = ap (λ u. entries_in u) c.self.view_is in
    let n : length c.deref_mut.result.now ≡ entries_in t
    = omega (arith, e, ap length c.deref_mut.ensures.value, ap length (c.fill.ensures.items (λ y e. e)) ∙ length-replicate _ 0, c.counts.inside.next.ok.0, c.counts.invariant.1, ap (λ (s : Standing). length s.counts) c.counts.view_is, room_entries c.args.self.now c.args.counts.now c.requires.room) in
    number_below t c.args.self.now c.args.reference.now.node (length c.deref_mut.result.now) c.args.reference.now.subscripts.items c.self.invariant.1 c.self.view_is c.requires.refers n

pub returns-in_err-take_needed-clause-err : goal.returns-in_err-take_needed-clause-err
returns-in_err-take_needed-clause-err c =
    let u = c.args.self.now in
    let r = c.args.reference.now.node in
    let taken : IfErr c.from_residual.result (λ e. Taken c.args.self.now c.args.bytes.now (needed_tables c.args.self.now c.args.reference.now.node c.args.receiving (tables_of c.args.self.now)) (greatest_counts c.args.self.now) (Err e)) = search rules in
    needed_err c.needs_are_read.ensures (tree_of c.self.inside.root) u r c.args.receiving c.args.bytes.now c.args.reference.now.subscripts.items c.from_residual.result c.self.invariant.1 c.self.view_is c.requires.refers taken

pub returns-clause-ok : goal.returns-clause-ok
returns-clause-ok c =
    let t = tree_of c.self.inside.root in
    let u = c.args.self.now in
    let e = ap (λ u. entries_in u) c.self.view_is in
    let n : length c.deref_mut.result.now ≡ entries_in t
    = omega (arith, e, ap length c.deref_mut.ensures.value, ap length (c.fill.ensures.items (λ y e. e)) ∙ length-replicate _ 0, c.counts.inside.next.ok.0, c.counts.invariant.1, ap (λ (s : Standing). length s.counts) c.counts.view_is, room_entries c.args.self.now c.args.counts.now c.requires.room) in
    let zeros = zeros_are _ _ (entries_in t) (c.deref_mut.ensures.value ∙ c.fill.ensures.items (λ y e. e)) n in
    let long : length c.take_needed.new.counts ≡ c.fill.new.self.len = c.take_needed.auto.counts ∙ c.deref_mut.ensures.len in
    let made : c.stand_under.new.taken ≡ c.take_needed.new.counts = c.stand_under.ensures.counts ∙ c.deref-2.ensures.value ∙ front_is _ c.take_needed.new.counts _ long in
    needed_at c.needs_are_read.ensures t u c.args.reference.now.node c.args.receiving c.args.bytes.now c.args.reference.now.subscripts.items c.deref.result.now c.deref_mut.result.now c.take_needed.new.counts _
    c.self.invariant.1 c.self.view_is c.requires.refers (c.deref.ensures.value ∙ c.self.invariant.2) zeros (front_is _ c.stand_under.new.taken _ (c.stand_under.auto.taken ∙ c.deref_mut-2.ensures.len) ∙ made) c.in_ok-take_needed.ensures.ok

pub returns-clause-none : goal.returns-clause-none
returns-clause-none c =
    let none : c.fill-2.new.self.items ≡ replicate (length c.counts.inside.kept.items) None = search rules in
    ap are_unkept none ∙ unkept (length c.counts.inside.kept.items)

pub returns-in_err-take_needed-clause-same : goal.returns-in_err-take_needed-clause-same
returns-in_err-take_needed-clause-same c =
    let p = err_from_is_err_and c.from_residual.result c.from_residual.ensures.1 in
    rw p.1 c.counts.view_is

pub returns-in_err-take_needed-clause-room : goal.returns-in_err-take_needed-clause-room
returns-in_err-take_needed-clause-room c = subst (λ (s : Standing). IsRoomFor c.args.self.now s) (sym c.counts.view_is) c.requires.room

pub stand_under-requires-clause-counts : goal.stand_under-requires-clause-counts
stand_under-requires-clause-counts c =
    omega (arith, c.deref_mut-2.ensures.len, c.counts.inside.taken.ok.0, c.counts.invariant.1, ap length c.deref-2.ensures.value, ap length (front_of c.fill.new.self.len c.take_needed.new.counts (drop (length c.take_needed.new.counts) c.fill.new.self.items) (c.take_needed.auto.counts ∙ c.deref_mut.ensures.len)), c.take_needed.auto.counts, c.deref_mut.ensures.len, c.fill.ensures.len, c.counts.inside.next.ok.0)

pub stand_under-requires-clause-next : goal.stand_under-requires-clause-next
stand_under-requires-clause-next c =
    omega (arith, ap length c.deref-2.ensures.value, ap length (front_of c.fill.new.self.len c.take_needed.new.counts (drop (length c.take_needed.new.counts) c.fill.new.self.items) (c.take_needed.auto.counts ∙ c.deref_mut.ensures.len)), c.take_needed.auto.counts, c.deref_mut.ensures.len, c.fill.ensures.len, c.counts.inside.next.ok.0, c.counts.invariant.1, ap (λ (s : Standing). length s.counts) c.counts.view_is, room_entries c.args.self.now c.args.counts.now c.requires.room)

pub stand_under-requires-clause-sums : goal.stand_under-requires-clause-sums
stand_under-requires-clause-sums c =
    omega (arith, c.deref_mut-3.ensures.len, c.counts.inside.sums.ok.0, c.counts.invariant.2, ap (λ (s : Standing). length s.counts) c.counts.view_is, room_entries c.args.self.now c.args.counts.now c.requires.room)

pub stand_under-requires-clause-room : goal.stand_under-requires-clause-room
stand_under-requires-clause-room c =
    omega (arith, c.deref_mut-4.ensures.len, c.counts.inside.spots.ok.0, c.counts.invariant.0, ap (λ (s : Standing). length s.counts) c.counts.view_is, room_entries c.args.self.now c.args.counts.now c.requires.room)

pub invariant_of-counts-2 : goal.invariant_of-counts-2
invariant_of-counts-2 c =
    let none : c.fill-2.new.self.items ≡ replicate (length c.counts.inside.kept.items) None = search rules in
    let taken = ap length (front_of c.counts.inside.taken.len c.stand_under.new.taken (drop (length c.stand_under.new.taken) c.counts.inside.taken.items) (c.stand_under.auto.taken ∙ c.deref_mut-2.ensures.len)) in
    let spots = ap length (front_of c.counts.inside.spots.len c.stand_under.new.spots (drop (length c.stand_under.new.spots) c.counts.inside.spots.items) (c.stand_under.auto.spots ∙ c.deref_mut-4.ensures.len)) in
    let sums = ap length (front_of c.counts.inside.sums.len c.stand_under.new.sums (drop (length c.stand_under.new.sums) c.counts.inside.sums.items) (c.stand_under.auto.sums ∙ c.deref_mut-3.ensures.len)) in (
      omega (arith, taken, c.stand_under.auto.taken, c.deref_mut-2.ensures.len, spots, c.stand_under.auto.spots, c.deref_mut-4.ensures.len, c.counts.inside.taken.ok.0, c.counts.inside.spots.ok.0, c.counts.invariant.0),
      omega (arith, taken, c.stand_under.auto.taken, c.deref_mut-2.ensures.len, c.counts.inside.taken.ok.0, c.counts.invariant.1, ap length (front_of c.fill.new.self.len c.take_needed.new.counts (drop (length c.take_needed.new.counts) c.fill.new.self.items) (c.take_needed.auto.counts ∙ c.deref_mut.ensures.len)), c.take_needed.auto.counts, c.deref_mut.ensures.len, c.fill.ensures.len, c.counts.inside.next.ok.0),
      omega (arith, sums, c.stand_under.auto.sums, c.deref_mut-3.ensures.len, c.counts.inside.sums.ok.0, c.counts.invariant.2, c.fill-2.ensures.len, c.fill-2.new.self.ok.0, c.counts.inside.kept.ok.0),
      λ some. absurd (omega (arith, some)),
      none_within _ (length c.counts.inside.kept.items) c.fill-2.new.self.items none,
    )

pub returns-clause-room : goal.returns-clause-room
returns-clause-room c =
    let taken = ap length (front_of c.counts.inside.taken.len c.stand_under.new.taken (drop (length c.stand_under.new.taken) c.counts.inside.taken.items) (c.stand_under.auto.taken ∙ c.deref_mut-2.ensures.len)) in
    let after : Standing = record {
      counts = take c.counts.inside.taken.len (c.stand_under.new.taken ++ drop (length c.stand_under.new.taken) c.counts.inside.taken.items);
      spots = take c.counts.inside.spots.len (c.stand_under.new.spots ++ drop (length c.stand_under.new.spots) c.counts.inside.spots.items);
      kept = c.fill-2.new.self.items;
      tables = c.counts.inside.tables.items;
      growths = c.counts.inside.growths.items;
    } in
    room_still c.args.self.now c.args.counts.now after c.requires.room (omega (arith, taken, c.stand_under.auto.taken, c.deref_mut-2.ensures.len, c.counts.inside.taken.ok.0, ap (λ (s : Standing). length s.counts) c.counts.view_is)) (omega (arith, c.fill-2.ensures.len, c.fill-2.new.self.ok.0, c.counts.inside.kept.ok.0, ap (λ (s : Standing). length s.kept) c.counts.view_is))
    (ap (λ (s : Standing). s.tables) c.counts.view_is) (ap (λ (s : Standing). s.growths) c.counts.view_is)

pub invariant_of-counts : goal.invariant_of-counts
invariant_of-counts c =
    let long = c.take_needed.auto.counts ∙ c.deref_mut.ensures.len in
    (c.counts.invariant.0, omega (arith, ap length (front_of c.fill.new.self.len c.take_needed.new.counts (drop (length c.take_needed.new.counts) c.fill.new.self.items) long), long, c.fill.ensures.len, c.counts.inside.next.ok.0, c.counts.invariant.1), c.counts.invariant.2, λ some. absurd (omega (arith, some)), c.counts.invariant.4)

pub returns-clause-stands : goal.returns-clause-stands
returns-clause-stands c =
    let taken : List ℕ = take c.counts.inside.taken.len (c.stand_under.new.taken ++ drop (length c.stand_under.new.taken) c.counts.inside.taken.items) in
    let spots : List Spot = take c.counts.inside.spots.len (c.stand_under.new.spots ++ drop (length c.stand_under.new.spots) c.counts.inside.spots.items) in
    let w : Written c.args.self.now taken spots c.take_needed.new.counts =
    written c.args.self.now c.fill.new.self.len c.counts.inside.taken.len c.counts.inside.spots.len c.take_needed.new.counts c.deref-2.result.now c.stand_under.new.taken (drop (length c.take_needed.new.counts) c.fill.new.self.items)
    (drop (length c.stand_under.new.taken) c.counts.inside.taken.items) c.stand_under.new.spots (drop (length c.stand_under.new.spots) c.counts.inside.spots.items) (c.take_needed.auto.counts ∙ c.deref_mut.ensures.len)
    (c.stand_under.auto.taken ∙ c.deref_mut-2.ensures.len) (c.stand_under.auto.spots ∙ c.deref_mut-4.ensures.len) c.deref-2.ensures.value c.stand_under.ensures.counts c.stand_under.ensures.spots in
    (taken, (refl, w.spots_are))
