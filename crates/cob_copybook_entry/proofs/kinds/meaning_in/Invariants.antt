use Rattle.std.proofs.Common.{◌≡◌, drop}
use Rattle.cob_copybook_entry.specs.Kinds.{meaning_by, kept_words}
use Rattle.cob_copybook_entry.proofs.kinds.meaning_in.Given as goal

abbrev pub invariant-loop-word : goal.invariant-loop-word
invariant-loop-word l = meaning_by (kept_words l.table) l.text ≡ meaning_by (kept_words (drop l.word-index l.table)) l.text
