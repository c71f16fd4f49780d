use Rattle.std.proofs.Common.{List, drop, sym, ap, ◌∙◌, arith}
use Rattle.cob_layout_places.specs.declared.places.Found.{Found}
use Rattle.cob_layout_places.specs.declared.spots.Spot.{Spot}
use Rattle.cob_layout.specs.Shifts.{all_shifted}
use Rattle.cob_layout.proofs.SpotMoves.{end_moved, next_fits}
use Rattle.cob_layout.proofs.by_sums.element_by.Goals as goal

pub returns-in_default : goal.returns-in_default
returns-in_default c =
    let spots : List Spot = all_shifted c.args.sums.now c.args.counts.now 0 c.args.shifts.now c.args.least.now in
    sym (end_moved spots (drop c.loop-table.table-index c.args.tables.now) c.loop-table.rest.now c.loop-table.found c.in_default.ensures.cases) ∙ c.loop-table.invariant.same

pub moved_by-found-requires : goal.moved_by-found-requires
moved_by-found-requires c =
    let spots : List Spot = all_shifted c.args.sums.now c.args.counts.now 0 c.args.shifts.now c.args.least.now in
    let all = ap (λ (g : Found). g.offset) c.loop-table.invariant.same in
    let fits = next_fits spots c.args.tables.now c.loop-table.table-index 0 c.in-Some.subscript.now c.loop-table.rest.now c.in-Some.later.now c.loop-table.found 32752 c.loop-table-test.true c.in-Some.ensures.cases.0
    (omega (arith, all, c.requires.room)) in
    record { room = rw c.spot_by-spot.ensures fits }
