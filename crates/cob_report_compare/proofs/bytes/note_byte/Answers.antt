use Rattle.std.proofs.Common.{rules}
use Rattle.cob_report_compare.proofs.BytesLemmas.{not_noted, noted}
use Rattle.cob_report_compare.proofs.bytes.note_byte.Goals as goal

pub returns-then-byte-clause-told : goal.returns-then-byte-clause-told
returns-then-byte-clause-told c = noted c.args.byte c.args.told.now _ (search rules) c.add_byte.ensures.told

pub returns-else-byte-clause-told : goal.returns-else-byte-clause-told
returns-else-byte-clause-told c = not_noted c.args.byte c.args.told.now (search rules)
