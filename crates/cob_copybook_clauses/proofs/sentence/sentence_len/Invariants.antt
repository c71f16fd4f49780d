use Rattle.std.proofs.Common.{take}
use Rattle.cob_source.specs.Tokens.{lexemes}
use Rattle.cob_copybook_clauses.specs.Entries.{HasNoStop}
use Rattle.cob_copybook_clauses.proofs.sentence.sentence_len.Given as goal

abbrev pub invariant-loop-at : goal.invariant-loop-at
invariant-loop-at l = HasNoStop (lexemes (take l.at l.tokens))
