use Rattle.std.proofs.Common.{◌≡◌, ◌<◌, ◌+◌, ◌∙◌, None, Err, Ok, sym, ap, subst, refl, arith, length, rules}
use Rattle.std.specs.Prelude.{slice_index_or}
use Rattle.std.proofs.lemmas.Result.{err_from_is_err_and}
use Rattle.cob_copybook_tree.specs.Forests.{Forest, entries_in}
use Rattle.cob_copybook_tree.specs.Nodes.{Resolved}
use Rattle.cob_layout_places.specs.declared.varying.Table.{Table}
use Rattle.cob_layout_places.specs.Counts.{tables_of}
use Rattle.cob_layout.specs.Sound.{IsSound}
use Rattle.cob_layout.specs.Standing.{first_number}
use Rattle.cob_layout.proofs.GreatestLemmas.{greatest_length}
use Rattle.cob_layout.proofs.TakingLemmas.{early_again, first_least, number_below, still_early, table_at}
use Rattle.cob_layout_places.specs.Needs.{is_needed}
use Rattle.cob_layout.specs.Kept.{kept_numbers}
use Rattle.cob_layout.proofs.KeepingLemmas.{anew_in, below_numbers, counted_all, counted_fault, counted_more, counted_none, counted_skips, known_at, same_counted}
use Rattle.cob_layout.proofs.layout.Layout.take_anew.Goals.{then-is_needed+in_ok-count, else-is_needed}
use Rattle.cob_layout.proofs.layout.Layout.take_anew.Goals as goal

pub loop-index-init : goal.loop-index-init
loop-index-init c = record {
  counted = counted_none c.args.self.now c.args.bytes.now (is_needed c.args.needed.behind c.args.needed.last c.args.needed.number) c.as_slice-tables.result.now (kept_numbers c.args.kept.now) c.args.counts.now c.args.reads.now
      (omega (arith, c.type_inv._before.fits));
  room = refl;
  early = λ k lt. refl;
}

pub count_anew-requires-clause-table : goal.count_anew-requires-clause-table
count_anew-requires-clause-table c =
    let d : Table = record { number = 0; least = 0; most = 0; count = 0 } in
    table_at c.args.self.now c.as_slice-tables.result.now c.loop-index.index d (c.as_slice-tables.ensures.value ∙ c.self.invariant.2 ∙ ap (λ (v : Forest Resolved). tables_of v) c.self.view_is) c.loop-index-test.true

pub bounds-counts-table : goal.bounds-counts-table
bounds-counts-table c =
    let u = c.args.self.now in
    let d : Table = record { number = 0; least = 0; most = 0; count = 0 } in
    let sound : IsSound u = subst IsSound c.self.view_is c.self.invariant.1 in
    let all = c.as_slice-tables.ensures.value ∙ c.self.invariant.2 ∙ ap (λ (v : Forest Resolved). tables_of v) c.self.view_is in
    let long : length c.loop-index.counts ≡ entries_in u = c.loop-index.invariant.room ∙ ap length c.requires.counts ∙ greatest_length u sound.numbered in
    number_below u (slice_index_or c.as_slice-tables.result.now c.loop-index.index d) (length c.loop-index.counts) sound
    (table_at u c.as_slice-tables.result.now c.loop-index.index d all c.loop-index-test.true) long

pub offset_bounds-counts-table : goal.offset_bounds-counts-table
offset_bounds-counts-table c =
    let u = c.args.self.now in
    let d : Table = record { number = 0; least = 0; most = 0; count = 0 } in
    let sound : IsSound u = subst IsSound c.self.view_is c.self.invariant.1 in
    let all = c.as_slice-tables.ensures.value ∙ c.self.invariant.2 ∙ ap (λ (v : Forest Resolved). tables_of v) c.self.view_is in
    let long : length c.loop-index.counts ≡ entries_in u = c.loop-index.invariant.room ∙ ap length c.requires.counts ∙ greatest_length u sound.numbered in
    let lt : (slice_index_or c.as_slice-tables.result.now c.loop-index.index d).number < length c.loop-index.counts =
    number_below u (slice_index_or c.as_slice-tables.result.now c.loop-index.index d) (length c.loop-index.counts) sound
    (table_at u c.as_slice-tables.result.now c.loop-index.index d all c.loop-index-test.true) long in
    search rules

pub returns-in_err-count-clause-taken : goal.returns-in_err-count-clause-taken
returns-in_err-count-clause-taken c =
    let p = err_from_is_err_and c.from_residual.result c.from_residual.ensures.1 in
    let all = c.as_slice-tables.ensures.value ∙ c.self.invariant.2 ∙ ap (λ (v : Forest Resolved). tables_of v) c.self.view_is in
    rw (p.1, p.2)
    (anew_in c.args.self.now c.args.bytes.now (is_needed c.args.needed.behind c.args.needed.last c.args.needed.number) c.as_slice-tables.result.now (kept_numbers c.args.kept.now) c.args.counts.now (Err c.in_err-count.field-0.0) c.args.reads.now _ all c.requires.counts (counted_fault c.args.self.now c.args.bytes.now (is_needed c.args.needed.behind c.args.needed.last c.args.needed.number) c.as_slice-tables.result.now (kept_numbers c.args.kept.now) c.args.counts.now c.args.reads.now c.loop-index.index
    _ _ c.loop-index.counts c.loop-index.reads c.count_anew.new.reads c.in_err-count.field-0.0 c.loop-index-test.true (below_numbers c.args.kept.now c.loop-index.index (omega (arith, c.loop-index-test.true, c.requires.as_many, ap length (c.as_slice-tables.ensures.value ∙ c.self.invariant.2 ∙ ap (λ (v : Forest Resolved). tables_of v) c.self.view_is)))) (sym c.is_needed.ensures ∙ c.if-is_needed.true)
    (known_at c.args.self.now c.args.bytes.now _ c.args.kept.now c.loop-index.index c.number_of-known.result c.loop-index.counts _ c.loop-index.reads c.count_anew.new.reads
    (omega (arith, c.loop-index-test.true, c.requires.as_many, ap length (c.as_slice-tables.ensures.value ∙ c.self.invariant.2 ∙ ap (λ (v : Forest Resolved). tables_of v) c.self.view_is))) c.number_of-known.ensures c.in_err-count.ensures.read) c.loop-index.invariant.counted))

pub loop-index-preserved : goal.loop-index-preserved
loop-index-preserved c = elim c.if-is_needed.branch [
  | then-is_needed+in_ok-count w ↦ record {
    counted = same_counted c.args.self.now c.args.bytes.now (is_needed c.args.needed.behind c.args.needed.last c.args.needed.number) c.as_slice-tables.result.now (kept_numbers c.args.kept.now) c.args.counts.now c.args.reads.now
        (c.loop-index.index + 1) _ c.if-is_needed.counts w.count_anew.new.reads c.if-is_needed.reads w.counts-is w.reads-is
        (counted_more c.args.self.now c.args.bytes.now (is_needed c.args.needed.behind c.args.needed.last c.args.needed.number) c.as_slice-tables.result.now (kept_numbers c.args.kept.now) c.args.counts.now c.args.reads.now c.loop-index.index
        _ _ c.loop-index.counts c.loop-index.reads w.count_anew.new.reads w.in_ok-count.count c.loop-index-test.true (below_numbers c.args.kept.now c.loop-index.index (omega (arith, c.loop-index-test.true, c.requires.as_many, ap length (c.as_slice-tables.ensures.value ∙ c.self.invariant.2 ∙ ap (λ (v : Forest Resolved). tables_of v) c.self.view_is)))) (sym c.is_needed.ensures ∙ w.if-is_needed.true)
        (known_at c.args.self.now c.args.bytes.now _ c.args.kept.now c.loop-index.index w.number_of-known.result c.loop-index.counts _ c.loop-index.reads w.count_anew.new.reads
        (omega (arith, c.loop-index-test.true, c.requires.as_many, ap length (c.as_slice-tables.ensures.value ∙ c.self.invariant.2 ∙ ap (λ (v : Forest Resolved). tables_of v) c.self.view_is))) w.number_of-known.ensures w.in_ok-count.ensures.read) c.loop-index.invariant.counted);
    room = c.if-is_needed.auto.counts ∙ c.loop-index.invariant.room;
    early = early_again _ c.if-is_needed.counts c.args.counts.now (first_number c.as_slice-tables.result.now) w.counts-is
        (still_early c.loop-index.counts c.args.counts.now (first_number c.as_slice-tables.result.now) _ w.in_ok-count.count
        (first_least c.args.self.now c.as_slice-tables.result.now c.loop-index.index (record { number = 0; least = 0; most = 0; count = 0 }) (subst IsSound c.self.view_is c.self.invariant.1)
        (c.as_slice-tables.ensures.value ∙ c.self.invariant.2 ∙ ap (λ (v : Forest Resolved). tables_of v) c.self.view_is) c.loop-index-test.true) c.loop-index.invariant.early);
  }
  | else-is_needed w ↦ record {
    counted = same_counted c.args.self.now c.args.bytes.now (is_needed c.args.needed.behind c.args.needed.last c.args.needed.number) c.as_slice-tables.result.now (kept_numbers c.args.kept.now) c.args.counts.now c.args.reads.now
        (c.loop-index.index + 1) c.loop-index.counts c.if-is_needed.counts c.loop-index.reads c.if-is_needed.reads w.counts-is w.reads-is
        (counted_skips c.args.self.now c.args.bytes.now (is_needed c.args.needed.behind c.args.needed.last c.args.needed.number) c.as_slice-tables.result.now (kept_numbers c.args.kept.now) c.args.counts.now c.args.reads.now c.loop-index.index
        (record { number = 0; least = 0; most = 0; count = 0 }) None c.loop-index.counts c.loop-index.reads c.loop-index-test.true (below_numbers c.args.kept.now c.loop-index.index (omega (arith, c.loop-index-test.true, c.requires.as_many, ap length (c.as_slice-tables.ensures.value ∙ c.self.invariant.2 ∙ ap (λ (v : Forest Resolved). tables_of v) c.self.view_is))))
        (sym c.is_needed.ensures ∙ w.if-is_needed.false) c.loop-index.invariant.counted);
    room = c.if-is_needed.auto.counts ∙ c.loop-index.invariant.room;
    early = early_again _ c.if-is_needed.counts c.args.counts.now (first_number c.as_slice-tables.result.now) w.counts-is c.loop-index.invariant.early;
  }
]

pub returns-clause-taken : goal.returns-clause-taken
returns-clause-taken c =
    let all = c.as_slice-tables.ensures.value ∙ c.self.invariant.2 ∙ ap (λ (v : Forest Resolved). tables_of v) c.self.view_is in
    anew_in c.args.self.now c.args.bytes.now (is_needed c.args.needed.behind c.args.needed.last c.args.needed.number) c.as_slice-tables.result.now (kept_numbers c.args.kept.now) c.args.counts.now (Ok c.loop-index.counts) c.args.reads.now _ all c.requires.counts
    (counted_all c.args.self.now c.args.bytes.now (is_needed c.args.needed.behind c.args.needed.last c.args.needed.number) c.as_slice-tables.result.now (kept_numbers c.args.kept.now) c.args.counts.now c.args.reads.now c.loop-index.index
    c.loop-index.counts c.loop-index.reads c.loop-index-test.false c.loop-index.invariant.counted)
