use Rattle.std.proofs.Common.{◌≡◌, length}
use Rattle.cob_source.specs.Tokens.{lexemes}
use Rattle.cob_copybook_record.specs.OneRecord.{from_record}
use Rattle.cob_copybook_record.proofs.stretch.from_record.Given as goal

abbrev pub invariant-loop-first : goal.invariant-loop-first
invariant-loop-first l = from_record l.name l.begins (lexemes l.rest) ≡ from_record l.name l.starts (lexemes l.words)

abbrev pub decreases-loop-first : goal.decreases-loop-first
decreases-loop-first l = length l.rest
