use Rattle.std.proofs.Common.{map, []}
use Rattle.cob_report_show.specs.Elements.{named_item}
use Rattle.cob_report_compare.specs.Equal.{printed_of}
use Rattle.cob_report_compare.proofs.SharedLemmas.{items_shared}
use Rattle.cob_report_compare.proofs.records.differences.Goals as goal

pub add_items-requires-clause-shared : goal.add_items-requires-clause-shared
add_items-requires-clause-shared c =
    items_shared c.records_are_sound.ensures c.places_end_in_length.ensures (printed_of c.args.left) (printed_of c.args.right) (map named_item c.args.items.now) c.greatest.ensures.record
    c.requires.one c.requires.items c.requires.left c.requires.right

pub returns : goal.returns
returns c =
    let (added, are, first) = c.add_items.ensures.added in
    record { told = (added, are, first [] c.new-told.ensures) }
