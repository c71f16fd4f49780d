use Rattle.std.proofs.Common.{length, map}
use Rattle.cob_source.specs.Tokens.{lexemes}
use Rattle.cob_copybook_entry.specs.Described.{plain_entry}
use Rattle.cob_copybook_entries.proofs.Reading.{SoFar}
use Rattle.cob_copybook_entries.proofs.reader.entries.Given as goal

abbrev pub invariant-loop-sentence : goal.invariant-loop-sentence
invariant-loop-sentence l = SoFar (lexemes l.tokens) (lexemes l.rest) (map plain_entry l.entries.items)

abbrev pub decreases-loop-sentence : goal.decreases-loop-sentence
decreases-loop-sentence l = length l.rest
