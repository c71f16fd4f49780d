use Rattle.cob_records_parts.proofs.MarkLaw as mark
use Rattle.cob_records_parts.proofs.laws.mark_ends_nothing.Goals as goal

pub returns : goal.returns
returns c = mark.mark_ends_nothing c.alone_is_one_record.ensures
