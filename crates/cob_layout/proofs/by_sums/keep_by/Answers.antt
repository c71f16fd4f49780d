use Rattle.std.proofs.Common.{◌≡◌, ◌+◌, ◌++◌, ◌∙◌, List, Option, Some, take, drop, sym, ap, subst}
use Rattle.std.specs.Prelude.{slice_set}
use Rattle.cob_layout_places.specs.declared.spots.Spot.{Spot}
use Rattle.cob_layout_places.specs.Needs.{is_needed}
use Rattle.cob_layout.specs.declared.counts.StoredCount.{StoredCount}
use Rattle.cob_layout.specs.Kept.{kept_read}
use Rattle.cob_layout.specs.Shifts.{all_shifted}
use Rattle.cob_layout.proofs.RefreshLemmas.{kept_more, kept_same}
use Rattle.cob_layout.proofs.by_sums.keep_by.Goals.{then-is_needed, else-is_needed}
use Rattle.cob_layout.proofs.by_sums.keep_by.Goals as goal

pub loop-index-preserved : goal.loop-index-preserved
loop-index-preserved c =
    let i = c.loop-index.index in
    let xs = c.args.tables.now in
    let d = c.args.counts.now in
    let spots : List Spot = all_shifted c.args.sums.now c.args.counts.now 0 c.args.shifts.now c.args.least.now in
    let all = kept_read (is_needed c.args.needed.behind c.args.needed.last c.args.needed.number) d spots xs c.args.kept.now in
    elim c.if-is_needed.branch [
      | then-is_needed w ↦ record {
        same = subst (λ (ks : List (Option StoredCount)). take (i + 1) ks ++ kept_read (is_needed c.args.needed.behind c.args.needed.last c.args.needed.number) d spots (drop (i + 1) xs) (drop (i + 1) ks) ≡ all)
            (sym (w.kept-is ∙ ap (λ (v : StoredCount). slice_set c.loop-index.kept i (Some v)) w.stored_by.ensures))
            (kept_more (is_needed c.args.needed.behind c.args.needed.last c.args.needed.number) d spots xs c.loop-index.kept i _ all c.loop-index-test.true (c.loop-index.invariant.room ∙ c.requires.as_many)
            (sym c.is_needed.ensures ∙ w.if-is_needed.true) c.loop-index.invariant.same);
        room = c.if-is_needed.auto.kept ∙ c.loop-index.invariant.room;
      }
      | else-is_needed w ↦ record {
        same = subst (λ (ks : List (Option StoredCount)). take (i + 1) ks ++ kept_read (is_needed c.args.needed.behind c.args.needed.last c.args.needed.number) d spots (drop (i + 1) xs) (drop (i + 1) ks) ≡ all)
            (sym w.kept-is)
            (kept_same (is_needed c.args.needed.behind c.args.needed.last c.args.needed.number) d spots xs c.loop-index.kept i (record { number = 0; least = 0; most = 0; count = 0 }) all c.loop-index-test.true
            (c.loop-index.invariant.room ∙ c.requires.as_many) (sym c.is_needed.ensures ∙ w.if-is_needed.false) c.loop-index.invariant.same);
        room = c.if-is_needed.auto.kept ∙ c.loop-index.invariant.room;
      }
    ]
