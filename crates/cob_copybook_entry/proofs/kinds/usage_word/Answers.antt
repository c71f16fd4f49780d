use Rattle.std.proofs.Common.{◌∙◌}
use Rattle.cob_copybook_entry.proofs.Words.{meaning_by_tables}
use Rattle.cob_copybook_entry.proofs.kinds.usage_word.Goals as goal

pub returns : goal.returns
returns c = c.meaning_of_length.ensures ∙ meaning_by_tables c.args.text.now
