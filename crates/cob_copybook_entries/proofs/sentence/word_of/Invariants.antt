use Rattle.std.proofs.Common.{◌≡◌, take}
use Rattle.cob_copybook_entries.proofs.sentence.word_of.Given as goal

abbrev pub invariant-loop-character : goal.invariant-loop-character
invariant-loop-character l = l.text.bytes ≡ take l.character-index l.word
