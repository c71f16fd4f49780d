use Rattle.std.proofs.Common.{◌≡◌, map, length}
use Rattle.cob_source_copies.specs.Statements.{written_text_name}
use Rattle.cob_source_copies.specs.Texts.{copied_text, text_named}
use Rattle.cob_source_copies.proofs.library.Library.text_named.Given as goal

abbrev pub invariant-loop-first : goal.invariant-loop-first
invariant-loop-first l = text_named (map copied_text l.rest) (written_text_name l.named) ≡ text_named (map copied_text l.self.texts.items) (written_text_name l.named)

abbrev pub decreases-loop-first : goal.decreases-loop-first
decreases-loop-first l = length l.rest
