use Rattle.std.proofs.Common.{true, length}
use Rattle.cob_source.specs.Tokens.{lexemes}
use Rattle.cob_copybook_record.specs.OneRecord.{AreRenamings}
use Rattle.cob_copybook_record.proofs.renaming.are_renamings.Given as goal

abbrev pub invariant-loop-first : goal.invariant-loop-first
invariant-loop-first l = record {
  yes : AreRenamings l.starts (lexemes l.rest) → AreRenamings true (lexemes l.words);
  must : AreRenamings true (lexemes l.words) → AreRenamings l.starts (lexemes l.rest);
}

abbrev pub decreases-loop-first : goal.decreases-loop-first
decreases-loop-first l = length l.rest
