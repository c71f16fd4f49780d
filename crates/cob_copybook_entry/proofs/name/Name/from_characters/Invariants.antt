use Rattle.std.proofs.Common.{◌≡◌, take}
use Rattle.cob_copybook_entry.proofs.name.Name.from_characters.Given as goal

abbrev pub invariant-loop-character : goal.invariant-loop-character
invariant-loop-character l = l.characters.items ≡ take l.character-index l.text
