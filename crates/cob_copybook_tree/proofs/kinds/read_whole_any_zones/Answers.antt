use Rattle.std.proofs.Common.{rules}
use Rattle.cob_codec.specs.declared.reading.Reading.TheVariants.{WholeAnyZones}
use Rattle.cob_copybook_tree.proofs.ItemLemmas.{one_sent}
use Rattle.cob_copybook_tree.proofs.kinds.read_whole_any_zones.Goals as goal

pub returns-in-Binary-clause-only : goal.returns-in-Binary-clause-only
returns-in-Binary-clause-only c negative digits h =
    one_sent WholeAnyZones c.args.item.now c.args.bytes.now c.read_whole.result.negative negative c.read_whole.result.digits digits (search rules) h
