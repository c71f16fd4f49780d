use Rattle.std.proofs.Common.{◌≡◌, ◌<◌, ◌≤◌, ◌∙◌, sym, ap, subst, Err, arith, length, rules}
use Rattle.std.specs.Prelude.{IfErr, slice_index_or}
use Rattle.std.proofs.lemmas.Grind.{common_steps}
use Rattle.std.proofs.lemmas.List.{length-set}
use Rattle.cob_copybook_tree.specs.Forests.{Forest, entries_in}
use Rattle.cob_copybook_tree.specs.Nodes.{Resolved}
use Rattle.cob_layout_places.specs.declared.varying.Table.{Table}
use Rattle.cob_layout_places.specs.Counts.{tables_of}
use Rattle.cob_layout_places.proofs.CountLemmas.{next_taken, stops_here}
use Rattle.cob_layout.specs.Counting.{CountsOf}
use Rattle.cob_layout.specs.Sound.{IsSound}
use Rattle.cob_layout.specs.Standing.{first_number}
use Rattle.cob_layout.proofs.GreatestLemmas.{greatest_length}
use Rattle.cob_layout.proofs.TakingLemmas.{early_in, first_least, number_below, of_all_taken, still_early, table_at}
use Rattle.cob_layout.proofs.layout.Layout.take_all_counts.Goals as goal

pub count_in-requires-clause-table : goal.count_in-requires-clause-table
count_in-requires-clause-table c =
    let d : Table = record { number = 0; least = 0; most = 0; count = 0 } in
    let all = c.as_slice-tables.ensures.value ∙ c.self.invariant.2 ∙ ap (λ (v : Forest Resolved). tables_of v) c.self.view_is in
    table_at c.args.self.now c.as_slice-tables.result.now c.loop-table.table-index d all c.loop-table-test.true

pub count_in-requires-clause-early : goal.count_in-requires-clause-early
count_in-requires-clause-early c =
    let all = c.as_slice-tables.ensures.value ∙ c.self.invariant.2 ∙ ap (λ (v : Forest Resolved). tables_of v) c.self.view_is in
    early_in c.args.self.now c.as_slice-tables.result.now c.loop-table.counts c.args.counts.now all c.requires.counts c.loop-table.invariant.early

pub bounds-counts-table : goal.bounds-counts-table
bounds-counts-table c =
    let u = c.args.self.now in
    let d : Table = record { number = 0; least = 0; most = 0; count = 0 } in
    let sound : IsSound u = subst IsSound c.self.view_is c.self.invariant.1 in
    let all = c.as_slice-tables.ensures.value ∙ c.self.invariant.2 ∙ ap (λ (v : Forest Resolved). tables_of v) c.self.view_is in
    let long : length c.loop-table.counts ≡ entries_in u = c.loop-table.invariant.room ∙ ap length c.requires.counts ∙ greatest_length u sound.numbered in
    number_below u (slice_index_or c.as_slice-tables.result.now c.loop-table.table-index d) (length c.loop-table.counts) sound
    (table_at u c.as_slice-tables.result.now c.loop-table.table-index d all c.loop-table-test.true) long

pub offset_bounds-counts-table : goal.offset_bounds-counts-table
offset_bounds-counts-table c =
    let u = c.args.self.now in
    let d : Table = record { number = 0; least = 0; most = 0; count = 0 } in
    let sound : IsSound u = subst IsSound c.self.view_is c.self.invariant.1 in
    let all = c.as_slice-tables.ensures.value ∙ c.self.invariant.2 ∙ ap (λ (v : Forest Resolved). tables_of v) c.self.view_is in
    let long : length c.loop-table.counts ≡ entries_in u = c.loop-table.invariant.room ∙ ap length c.requires.counts ∙ greatest_length u sound.numbered in
    let lt : (slice_index_or c.as_slice-tables.result.now c.loop-table.table-index d).number < length c.loop-table.counts = number_below u (slice_index_or c.as_slice-tables.result.now c.loop-table.table-index d) (length c.loop-table.counts) sound
    (table_at u c.as_slice-tables.result.now c.loop-table.table-index d all c.loop-table-test.true) long in
    search rules

pub returns-in_err-counts-clause-err : goal.returns-in_err-counts-clause-err
returns-in_err-counts-clause-err c =
    let t = c.args.self.now in
    let d : Table = record { number = 0; least = 0; most = 0; count = 0 } in
    let xs = c.as_slice-tables.result.now in
    let all = c.as_slice-tables.ensures.value ∙ c.self.invariant.2 ∙ ap (λ (v : Forest Resolved). tables_of v) c.self.view_is in
    let fault = c.in_err-counts.field-0.0 in
    let e : c.from_residual.result ≡ Err fault = grind (arith, common_steps) in
    subst (λ r. IfErr r (λ e. CountsOf t c.args.bytes.now (Err e))) (sym e)
    (of_all_taken t c.args.bytes.now xs c.args.counts.now (Err fault) all c.requires.counts
    (c.loop-table.invariant.so_far (Err fault)
    (stops_here t c.args.bytes.now xs c.loop-table.table-index d c.loop-table.counts fault c.loop-table-test.true c.in_err-counts.ensures.err)))

pub loop-table-preserved : goal.loop-table-preserved
loop-table-preserved c =
    let t = c.args.self.now in
    let d : Table = record { number = 0; least = 0; most = 0; count = 0 } in
    let xs = c.as_slice-tables.result.now in
    let at = (slice_index_or xs c.loop-table.table-index d).number in
    let all = c.as_slice-tables.ensures.value ∙ c.self.invariant.2 ∙ ap (λ (v : Forest Resolved). tables_of v) c.self.view_is in
    let sound : IsSound t = subst IsSound c.self.view_is c.self.invariant.1 in
    let least : first_number xs ≤ at = first_least t xs c.loop-table.table-index d sound all c.loop-table-test.true in
    record {
      so_far = λ r taken. c.loop-table.invariant.so_far r (next_taken t c.args.bytes.now xs c.loop-table.table-index d c.loop-table.counts r c.in_ok-counts.field-0 c.loop-table-test.true c.in_ok-counts.ensures.ok taken);
      room = length-set c.loop-table.counts at c.in_ok-counts.field-0 ∙ c.loop-table.invariant.room;
      early = still_early c.loop-table.counts c.args.counts.now (first_number xs) at c.in_ok-counts.field-0 least c.loop-table.invariant.early;
    }
