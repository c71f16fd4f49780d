use Rattle.std.proofs.Common.{[], ◌∷◌, ap, map}
use Rattle.cob_layout_places.specs.Cover.{Occurrence}
use Rattle.cob_move_data.specs.Singles.{PlainSingle, plain_single, singles_of}
use Rattle.cob_report_cover.proofs.GatherLemmas.{left_done, left_next}
use Rattle.cob_report_cover.proofs.gathered.places_received.Goals as goal

abbrev receiver : PlainSingle → Occurrence
receiver s = s.receiver

pub loop-single-preserved : goal.loop-single-preserved
loop-single-preserved c =
    left_next c.args.layout.now (map receiver (singles_of c.args.statements.now)) (map receiver c.loop-single.single-iterator) (map receiver c.next.new.self)
    (receiver (plain_single c.in-Some.single) ∷ []) c.loop-single.places.items c.add.new.places.items (ap (map receiver) c.in-Some.ensures.steps) c.in_ok-add.ensures c.loop-single.invariant

pub returns : goal.returns
returns c =
    left_done c.args.layout.now (map receiver (singles_of c.args.statements.now)) (map receiver c.loop-single.single-iterator) c.loop-single.places.items
    (ap (map receiver) c.in-None.ensures.steps.0) c.loop-single.invariant
