use Rattle.std.proofs.Common.{◌≡◌, ◌+◌, ◌-◌, ◌*◌, None, refl, sym, ap, ◌∙◌, arith}
use Rattle.std.proofs.lemmas.Grind.{common_steps}
use Rattle.cob_copybook_tree.specs.declared.node.Node.TheViews.{out-Node}
use Rattle.cob_copybook_tree.specs.Nodes.{node}
use Rattle.cob_copybook_tree.specs.Lengths.{length_by_kind, own_length, sum_of, whole_length}
use Rattle.cob_layout_places.specs.Lengths.{times}
use Rattle.cob_layout_places.specs.Places.{place_of, also}
use Rattle.cob_layout_places.proofs.ForestLemmas.{left, left_end, left_sum, below, element_out}
use Rattle.cob_layout_places.proofs.PlaceLemmas.{fits, entered, place_alone, entries, one_is, left_first, left_rest, whole_small, further, in_first}
use Rattle.cob_layout_places.proofs.places.+seek_or_measure.Goals as goal

pub behind_skipped-offset-requires-clause-room : goal.behind_skipped-offset-requires-clause-room
behind_skipped-offset-requires-clause-room t c =
    let f = fits c.args.counts.now (node c.args.entry.now) c.args.start c.requires in
    let h = entered _ c.args.entry.now c.args.start _ _ 32752 _ c.step-skipped.ensures.skipped refl f in
    omega (arith, h)

pub loop-child-init : goal.loop-child-init
loop-child-init t c =
    let f = fits c.args.counts.now (node c.args.entry.now) c.args.start c.requires in
    let h = entered _ c.args.entry.now c.args.start _ _ 32752 _ c.step-skipped.ensures.skipped refl f in
    let l = entries _ c.args.entry.now c.behind_skipped-offset.result c.args.start 32752 f (omega (arith, h, c.behind_skipped-offset.ensures)) in
    record {
      same = rw c.deref-child-items.ensures.value refl;
      left = rw c.deref-child-items.ensures.value l;
      sum = rw c.deref-child-items.ensures.value refl;
    }

pub overflow_mul-times_of : goal.overflow_mul-times_of
overflow_mul-times_of t c =
    let f = left_first _ c.deref-child-items.result.now c.loop-child.child-index c.child-item.result c.loop-child.at c.loop-child.area 32752 c.loop-child-test.true c.child-item.is c.loop-child.invariant.left in
    let p : c.times_of-in-loop-child.result * c.in-Err.length ≡ whole_length (times c.args.counts.now) (node c.child-item.result).top (node c.child-item.result).beneath
    = rw (c.times_of-in-loop-child.ensures, c.in-Err.ensures.length) refl in
    omega (arith, p, whole_small _ _ _ _ f)

pub overflow_add-at : goal.overflow_add-at
overflow_add-at t c =
    let r = left_rest _ c.deref-child-items.result.now c.loop-child.child-index c.child-item.result c.loop-child.at c.loop-child.area 32752 c.loop-child-test.true c.child-item.is c.loop-child.invariant.left in
    let p : c.times_of-in-loop-child.result * c.in-Err.length ≡ whole_length (times c.args.counts.now) (node c.child-item.result).top (node c.child-item.result).beneath
    = rw (c.times_of-in-loop-child.ensures, c.in-Err.ensures.length) refl in
    let q = c.room_of-at.ensures ∙ ap (own_length (out-Node c.child-item.result).redefines) p in
    omega (arith, q, r.greatest)

pub loop-child-preserved : goal.loop-child-preserved
loop-child-preserved t c =
    let r = left_rest _ c.deref-child-items.result.now c.loop-child.child-index c.child-item.result c.loop-child.at c.loop-child.area 32752 c.loop-child-test.true c.child-item.is c.loop-child.invariant.left in
    let p : c.times_of-in-loop-child.result * c.in-Err.length ≡ whole_length (times c.args.counts.now) (node c.child-item.result).top (node c.child-item.result).beneath
    = rw (c.times_of-in-loop-child.ensures, c.in-Err.ensures.length) refl in
    let q = c.room_of-at.ensures ∙ ap (own_length (out-Node c.child-item.result).redefines) p in
    let b = c.begins_at-begin.ensures in
    let s = left_sum (times c.args.counts.now) c.deref-child-items.result.now c.loop-child.child-index c.child-item.result c.loop-child-test.true c.child-item.is in
    record {
      same = c.loop-child.invariant.same ∙ further (times c.args.counts.now) c.args.number c.deref-child-items.result.now c.loop-child.child-index c.child-item.result c.loop-child.at c.loop-child.area c.step-skipped.result.2.now c.begins_at-begin.result c.room_of-at.result c.loop-child-test.true c.child-item.is (sym (place_alone (times c.args.counts.now) c.args.number c.child-item.result c.begins_at-begin.result c.step-skipped.result.2.now) ∙ c.in-Err.ensures.none) b q;
      left = rw (q, b) r;
      sum = omega (arith, c.loop-child.invariant.sum, s, q);
    }

pub returns-in-Ok-clause-found : goal.returns-in-Ok-clause-found
returns-in-Ok-clause-found t c =
    let h = in_first (times c.args.counts.now) c.args.number c.deref-child-items.result.now c.loop-child.child-index c.child-item.result c.loop-child.at c.loop-child.area c.step-skipped.result.2.now c.begins_at-begin.result c.in-Ok.found c.loop-child-test.true c.child-item.is (sym (place_alone (times c.args.counts.now) c.args.number c.child-item.result c.begins_at-begin.result c.step-skipped.result.2.now) ∙ c.in-Ok.ensures.found) c.begins_at-begin.ensures in
    let o = one_is (times c.args.counts.now) c.args.number c.args.entry.now c.args.start _ _ _ _ _ _ c.step-skipped.ensures.skipped refl c.times_of.ensures c.step-skipped.ensures.there c.step-skipped.ensures.later (grind (arith, common_steps)) in
    let a = ap (λ m. also c.step-skipped.result.1 (place_of (times c.args.counts.now) c.args.number (below c.args.entry.now) m m c.step-skipped.result.2.now)) (sym c.behind_skipped-offset.ensures) in
    place_alone (times c.args.counts.now) c.args.number c.args.entry.now c.args.start c.args.subscripts.now ∙ o ∙ a ∙ ap (also c.step-skipped.result.1) (c.loop-child.invariant.same ∙ h) ∙ sym c.also_there.ensures

pub returns-clause-none : goal.returns-clause-none
returns-clause-none t c =
    let e = left_end c.deref-child-items.result.now c.loop-child.child-index (omega arith) in
    let n : place_of (times c.args.counts.now) c.args.number (left c.deref-child-items.result.now c.loop-child.child-index) c.loop-child.at c.loop-child.area c.step-skipped.result.2.now ≡ None
    = ap (λ f. place_of (times c.args.counts.now) c.args.number f c.loop-child.at c.loop-child.area c.step-skipped.result.2.now) e in
    let o = one_is (times c.args.counts.now) c.args.number c.args.entry.now c.args.start _ _ _ _ _ _ c.step-skipped.ensures.skipped refl c.times_of.ensures c.step-skipped.ensures.there c.step-skipped.ensures.later (grind (arith, common_steps)) in
    let a = ap (λ m. also c.step-skipped.result.1 (place_of (times c.args.counts.now) c.args.number (below c.args.entry.now) m m c.step-skipped.result.2.now)) (sym c.behind_skipped-offset.ensures) in
    place_alone (times c.args.counts.now) c.args.number c.args.entry.now c.args.start c.args.subscripts.now ∙ o ∙ a ∙ ap (also c.step-skipped.result.1) (c.loop-child.invariant.same ∙ n)

pub returns-clause-length : goal.returns-clause-length
returns-clause-length t c =
    let e = left_end c.deref-child-items.result.now c.loop-child.child-index (omega arith) in
    let s : c.behind_skipped-offset.result + sum_of (times c.args.counts.now) (below c.args.entry.now) ≡ c.loop-child.at
    = omega (arith, c.loop-child.invariant.sum, ap (sum_of (times c.args.counts.now)) e) in
    let d : c.loop-child.at - c.behind_skipped-offset.result ≡ sum_of (times c.args.counts.now) (below c.args.entry.now) = omega (arith, s) in
    c.element_by.ensures ∙ ap (length_by_kind (out-Node c.args.entry.now).kind) d ∙ sym (element_out (times c.args.counts.now) c.args.entry.now)
