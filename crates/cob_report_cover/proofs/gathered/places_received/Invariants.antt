use Rattle.std.proofs.Common.{List, [], map}
use Rattle.cob_layout.specs.declared.fields.Place.{Place}
use Rattle.cob_move_data.specs.Singles.{singles_of}
use Rattle.cob_report_cover.specs.Gathered.{Joins}
use Rattle.cob_report_cover.proofs.gathered.places_received.Given as goal

abbrev pub invariant-loop-single : goal.invariant-loop-single
invariant-loop-single l =
    (after : List Place) → Joins l.layout l.places.items after (map (λ s. s.receiver) l.single-iterator)
    → Joins l.layout [] after (map (λ s. s.receiver) (singles_of l.statements))
