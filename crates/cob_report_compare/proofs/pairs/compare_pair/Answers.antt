use Rattle.std.proofs.Common.{map}
use Rattle.cob_report_show.specs.Elements.{named_item}
use Rattle.cob_report_compare.specs.Equal.{printed_of}
use Rattle.cob_report_compare.proofs.PrintableLemmas.{values_tellable}
use Rattle.cob_report_compare.proofs.pairs.compare_pair.Goals as goal

pub returns-else-files-clause-tells : goal.returns-else-files-clause-tells
returns-else-files-clause-tells c =
    values_tellable (map named_item c.args.files.items.now) (printed_of c.args.left) (printed_of c.args.right) c.compare_records.result c.compare_records.ensures.is
