use Rattle.std.proofs.Common.{◌≡◌, sym, subst, ◌∙◌, Err, arith}
use Rattle.std.specs.Prelude.{IfErr}
use Rattle.std.proofs.lemmas.Grind.{common_steps}
use Rattle.cob_copybook_tree.specs.Nodes.{tree_of}
use Rattle.cob_layout_places.specs.declared.varying.Table.{Table}
use Rattle.cob_layout_places.specs.Counts.{Taken}
use Rattle.cob_layout_places.specs.Needs.{greatest, is_needed, needed_tables}
use Rattle.cob_layout_places.proofs.NeedLemmas.{needed_is, stops_at}
use Rattle.cob_layout_places.proofs.needs.take_needed.Goals as goal

pub returns-in_err-counts-clause-err : goal.returns-in_err-counts-clause-err
returns-in_err-counts-clause-err c =
    let d : Table = record { number = 0; least = 0; most = 0; count = 0 } in
    let t = tree_of c.args.root.now in
    let fault = c.in_err-counts.field-0.0 in
    let e : c.from_residual.result ≡ Err fault = grind (arith, common_steps) in
    let behind = c.number_behind-behind.result in
    let last = c.is_last_receiver-last.result in
    let same = needed_is t c.args.number c.args.receiving c.args.tables.now behind _ last c.number_behind-behind.ensures c.is_last_receiver-last.ensures c.requires.all in
    let here = stops_at (is_needed behind last c.args.number) t c.args.bytes.now c.args.tables.now c.loop-table.table-index d c.loop-table.counts fault c.loop-table-test.true
    (sym c.is_needed.ensures ∙ c.if-is_needed.true) c.in_err-counts.ensures.err in
    subst (λ r. IfErr r (λ e. Taken t c.args.bytes.now (needed_tables t c.args.number c.args.receiving c.args.tables.now) (greatest c.args.tables.now c.args.counts.now) (Err e))) (sym e)
    (subst (λ xs. Taken t c.args.bytes.now xs (greatest c.args.tables.now c.args.counts.now) (Err fault)) same (c.loop-table.invariant.so_far (Err fault) here))
