use Rattle.cob_move_apply.proofs.PlaceLemmas.{by_sums}
use Rattle.cob_move_apply.proofs.places.place_by_sums.Goals as goal

pub returns-in-Some : goal.returns-in-Some
returns-in-Some c = by_sums c.args.stored.now.layout.now c.args.receiving c.args.entry.now c.args.stored.now.bytes.now c.place_by_sums.result c.place_by_sums.ensures.found c.place_by_sums.ensures.fits
