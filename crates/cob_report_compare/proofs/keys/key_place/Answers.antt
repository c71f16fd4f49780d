use Rattle.std.proofs.Common.{[], subst, sym, List, ℕ}
use Rattle.cob_report_show.specs.Elements.{StandsWithin, named_item}
use Rattle.cob_report_compare.specs.Equal.{printed_of}
use Rattle.cob_report_compare.proofs.KeyLemmas.{key_stands}
use Rattle.cob_report_compare.proofs.keys.key_place.Goals as goal

pub place_of-requires-clause-stands : goal.place_of-requires-clause-stands
place_of-requires-clause-stands c =
    subst (λ (ss : List ℕ). StandsWithin (printed_of c.args.compared) (named_item c.args.key.now) ss) (sym c.new.ensures)
    (key_stands c.records_are_sound.ensures c.places_end_in_length.ensures (printed_of c.args.compared) (named_item c.args.key.now) c.greatest.ensures.record c.requires.holds c.requires.key.0)
