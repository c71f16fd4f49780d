use Rattle.std.proofs.Common.{◌≡◌, ◌++◌, length}
use Rattle.cob_source.specs.Tokens.{lexemes}
use Rattle.cob_copybook_clauses.specs.Written.{names_behind}
use Rattle.cob_copybook_entries.specs.Short.{AreShort}
use Rattle.cob_copybook_entries.proofs.occurs.names_in.Given as goal

abbrev pub invariant-loop-rest : goal.invariant-loop-rest
invariant-loop-rest l = record {
  all : l.names.items ++ names_behind (lexemes l.rest) ≡ names_behind (lexemes l.qualifiers);
  short : AreShort (names_behind (lexemes l.rest));
}

abbrev pub decreases-loop-rest : goal.decreases-loop-rest
decreases-loop-rest l = length l.rest
