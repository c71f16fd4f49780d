use Rattle.std.proofs.Common.{inr, refl}
use Rattle.std.specs.Prelude.{slice_index_or}
use Rattle.cob_layout_places.specs.declared.varying.Table.{Table}
use Rattle.cob_layout.proofs.TakingLemmas.{in_get}
use Rattle.cob_layout.proofs.summed.least_of.Goals as goal

pub returns-then-is_named : goal.returns-then-is_named
returns-then-is_named c =
    let d : Table = record { number = 0; least = 0; most = 0; count = 0 } in
    let (named, below) = c.if-is_named.ensures refl in
    inr (slice_index_or c.args.tables.now c.loop-table.table-index d, in_get c.args.tables.now c.loop-table.table-index d c.loop-table-test.true, named, below, refl)
