use Rattle.std.proofs.Common.{◌≡◌, ◌++◌, ◌+◌, ◌-◌, drop, take, length, refl, sym, ap, ◌∙◌, arith, [], ◌∷◌, ℕ, List}
use Rattle.std.proofs.lemmas.List.{drop_all, drop-drop, length-take}
use Rattle.cob_copybook_tree.specs.Forests.{entries_in}
use Rattle.cob_copybook_tree.specs.declared.node.Node.TheViews.{out-Node}
use Rattle.cob_copybook_tree.specs.Lengths.{greatest_number, sum_of, own_length, whole_length, element_length, length_by_kind}
use Rattle.cob_copybook_tree.specs.Nodes.{node}
use Rattle.cob_layout_places.specs.declared.spots.Spot.{Spot}
use Rattle.cob_layout_places.specs.Lengths.{times}
use Rattle.cob_layout_places.specs.Spots.{spots_of}
use Rattle.cob_layout_places.proofs.ForestLemmas.{left, left_is, left_end, left_sum, below, below_is, element_small, element_out}
use Rattle.cob_layout_places.proofs.PlaceLemmas.{fits, entries, left_first, left_rest, whole_small}
use Rattle.cob_layout_places.proofs.SpotLemmas.{put, spots_alone, spots_left, spots_written, first_set}
use Rattle.cob_layout_places.proofs.spots.+put_entry.Goals as goal

pub loop-child-init : goal.loop-child-init
loop-child-init t c =
    let f = fits c.args.counts.now (node c.args.entry.now) c.args.start c.requires.fit in
    let e = element_small (whole_length greatest_number (node c.args.entry.now).top (node c.args.entry.now).beneath) (node c.args.entry.now).top (node c.args.entry.now).beneath f.possible.0 (omega arith) in
    let l = entries _ c.args.entry.now c.args.start c.args.start 32752 f (omega (arith, e, f.small)) in
    let none : drop 1 (take 1 c.args.spots.now) ≡ [] = drop_all 1 (take 1 c.args.spots.now) (omega (arith, length-take 1 c.args.spots.now)) in
    record {
      left = rw c.deref-child-items.ensures.value l;
      sum = rw c.deref-child-items.ensures.value refl;
      first = omega arith;
      count = rw c.deref-child-items.ensures.value refl;
      long = refl;
      kept = refl;
      same = rw (c.deref-child-items.ensures.value, none) refl;
    }

pub overflow_mul-spots : goal.overflow_mul-spots
overflow_mul-spots t c =
    let inv = c.loop-child.invariant in
    let n = c.child-item.result in
    let cut = left_is c.deref-child-items.result.now c.loop-child.child-index n c.loop-child-test.true c.child-item.is in
    let many : entries_in (left c.deref-child-items.result.now c.loop-child.child-index) ≡ 1 + entries_in (node n).beneath + entries_in (left c.deref-child-items.result.now (c.loop-child.child-index + 1)) = ap entries_in cut in
    let all = ap entries_in (below_is c.args.entry.now) in
    let p = put (times c.args.counts.now) n c.loop-child.next (length c.loop-child.spots - c.loop-child.next) c.put_entry-count.result c.begins_at-begin.result c.loop-child.spots c.put_entry-count.new.spots
    inv.first (omega (arith, many, all, inv.count, inv.long, c.requires.room)) (omega (arith, many, all, inv.count, inv.long, c.requires.room, c.put_entry-count.ensures.count)) c.put_entry-count.ensures.count c.put_entry-count.ensures.spots in
    let size = p.size (record { offset = 0; length = 0; times = 0 }) in
    let f = left_first _ c.deref-child-items.result.now c.loop-child.child-index n c.loop-child.at c.loop-child.area 32752 c.loop-child-test.true c.child-item.is inv.left in
    omega (arith, size, whole_small _ _ _ _ f)

pub overflow_add-at : goal.overflow_add-at
overflow_add-at t c =
    let inv = c.loop-child.invariant in
    let n = c.child-item.result in
    let cut = left_is c.deref-child-items.result.now c.loop-child.child-index n c.loop-child-test.true c.child-item.is in
    let many : entries_in (left c.deref-child-items.result.now c.loop-child.child-index) ≡ 1 + entries_in (node n).beneath + entries_in (left c.deref-child-items.result.now (c.loop-child.child-index + 1)) = ap entries_in cut in
    let all = ap entries_in (below_is c.args.entry.now) in
    let p = put (times c.args.counts.now) n c.loop-child.next (length c.loop-child.spots - c.loop-child.next) c.put_entry-count.result c.begins_at-begin.result c.loop-child.spots c.put_entry-count.new.spots
    inv.first (omega (arith, many, all, inv.count, inv.long, c.requires.room)) (omega (arith, many, all, inv.count, inv.long, c.requires.room, c.put_entry-count.ensures.count)) c.put_entry-count.ensures.count c.put_entry-count.ensures.spots in
    let size = p.size (record { offset = 0; length = 0; times = 0 }) in
    let r = left_rest _ c.deref-child-items.result.now c.loop-child.child-index n c.loop-child.at c.loop-child.area 32752 c.loop-child-test.true c.child-item.is inv.left in
    let q = c.room_of-at.ensures ∙ ap (own_length (out-Node n).redefines) size in
    omega (arith, q, r.greatest)

pub overflow_add-next : goal.overflow_add-next
overflow_add-next t c =
    let inv = c.loop-child.invariant in
    let n = c.child-item.result in
    let many : entries_in (left c.deref-child-items.result.now c.loop-child.child-index) ≡ 1 + entries_in (node n).beneath + entries_in (left c.deref-child-items.result.now (c.loop-child.child-index + 1))
    = ap entries_in (left_is c.deref-child-items.result.now c.loop-child.child-index n c.loop-child-test.true c.child-item.is) in
    omega (arith, many, ap entries_in (below_is c.args.entry.now), inv.count, inv.long, c.requires.room, c.put_entry-count.ensures.count, c.loop-child.auto.spots)

pub loop-child-preserved : goal.loop-child-preserved
loop-child-preserved t c =
    let inv = c.loop-child.invariant in
    let n = c.child-item.result in
    let cut = left_is c.deref-child-items.result.now c.loop-child.child-index n c.loop-child-test.true c.child-item.is in
    let many : entries_in (left c.deref-child-items.result.now c.loop-child.child-index) ≡ 1 + entries_in (node n).beneath + entries_in (left c.deref-child-items.result.now (c.loop-child.child-index + 1)) = ap entries_in cut in
    let all = ap entries_in (below_is c.args.entry.now) in
    let p = put (times c.args.counts.now) n c.loop-child.next (length c.loop-child.spots - c.loop-child.next) c.put_entry-count.result c.begins_at-begin.result c.loop-child.spots c.put_entry-count.new.spots
    inv.first (omega (arith, many, all, inv.count, inv.long, c.requires.room)) (omega (arith, many, all, inv.count, inv.long, c.requires.room, c.put_entry-count.ensures.count)) c.put_entry-count.ensures.count c.put_entry-count.ensures.spots in
    let size = p.size (record { offset = 0; length = 0; times = 0 }) in
    let r = left_rest _ c.deref-child-items.result.now c.loop-child.child-index n c.loop-child.at c.loop-child.area 32752 c.loop-child-test.true c.child-item.is inv.left in
    let q = c.room_of-at.ensures ∙ ap (own_length (out-Node n).redefines) size in
    let b = c.begins_at-begin.ensures in
    let s = left_sum (times c.args.counts.now) c.deref-child-items.result.now c.loop-child.child-index n c.loop-child-test.true c.child-item.is in
    let spots = spots_left (times c.args.counts.now) c.deref-child-items.result.now c.loop-child.child-index n c.loop-child.at c.loop-child.area c.begins_at-begin.result c.room_of-at.result c.loop-child-test.true c.child-item.is b q in
    record {
      left = rw (q, b) r;
      sum = omega (arith, inv.sum, s, q);
      first = omega (arith, inv.first);
      count = omega (arith, inv.count, many, c.put_entry-count.ensures.count);
      long = p.grown.long ∙ inv.long;
      kept = p.grown.kept ∙ sym (drop-drop c.put_entry-count.result c.loop-child.next c.loop-child.spots) ∙ ap (drop c.put_entry-count.result) inv.kept ∙ drop-drop c.put_entry-count.result c.loop-child.next c.args.spots.now;
      same = spots_written _ _ _ _ _ _ p.grown.same inv.same spots;
    }

pub returns-clause-count : goal.returns-clause-count
returns-clause-count t c =
    let e = left_end c.deref-child-items.result.now c.loop-child.child-index c.loop-child-test.false in
    omega (arith, c.loop-child.invariant.count, ap entries_in e, ap entries_in (below_is c.args.entry.now))

pub returns-clause-spots : goal.returns-clause-spots
returns-clause-spots t c =
    let inv = c.loop-child.invariant in
    let n = c.args.entry.now in
    let e = left_end c.deref-child-items.result.now c.loop-child.child-index c.loop-child-test.false in
    let sum : c.args.start + sum_of (times c.args.counts.now) (below c.args.entry.now) ≡ c.loop-child.at = omega (arith, inv.sum, ap (sum_of (times c.args.counts.now)) e) in
    let rest : c.loop-child.at - c.args.start ≡ sum_of (times c.args.counts.now) (below c.args.entry.now) = omega (arith, sum) in
    let size : c.element_by.result ≡ element_length (times c.args.counts.now) (node n).top (node n).beneath = c.element_by.ensures ∙ ap (length_by_kind (out-Node n).kind) rest ∙ sym (element_out (times c.args.counts.now) n) in
    let same : drop 1 (take c.loop-child.next c.loop-child.spots) ++ [] ≡ spots_of (times c.args.counts.now) (node n).beneath c.args.start c.args.start =
    ap (λ f. drop 1 (take c.loop-child.next c.loop-child.spots) ++ spots_of (times c.args.counts.now) f c.loop-child.at c.loop-child.area) (sym e) ∙ inv.same
    ∙ ap (λ f. spots_of (times c.args.counts.now) f c.args.start c.args.start) (sym (below_is n)) in
    let x : Spot = record { offset = c.args.start; length = c.element_by.result; times = c.times_of.result } in
    first_set c.loop-child.spots c.args.spots.now c.loop-child.next x (spots_of (times c.args.counts.now) (node n).beneath c.args.start c.args.start) inv.first
    (omega (arith, inv.count, inv.long, c.requires.room, ap entries_in e, ap entries_in (below_is n))) inv.kept same
    ∙ ap (λ (l : ℕ). record { offset = c.args.start; length = l; times = c.times_of.result } ∷ (spots_of (times c.args.counts.now) (node n).beneath c.args.start c.args.start ++ drop c.loop-child.next c.args.spots.now)) size
    ∙ ap (λ (k : ℕ). record { offset = c.args.start; length = element_length (times c.args.counts.now) (node n).top (node n).beneath; times = k } ∷ (spots_of (times c.args.counts.now) (node n).beneath c.args.start c.args.start ++ drop c.loop-child.next c.args.spots.now)) c.times_of.ensures
    ∙ ap (λ (zs : List Spot). zs ++ drop c.loop-child.next c.args.spots.now) (sym (spots_alone (times c.args.counts.now) n c.args.start))
