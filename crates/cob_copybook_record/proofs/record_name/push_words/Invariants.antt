use Rattle.std.proofs.Common.{◌≡◌, ◌++◌, length}
use Rattle.cob_source.specs.Tokens.{lexemes}
use Rattle.cob_copybook_record.proofs.record_name.push_words.Given as goal

abbrev pub invariant-loop-first : goal.invariant-loop-first
invariant-loop-first l = lexemes l.out.items ++ lexemes l.rest ≡ lexemes l.initial.out.items ++ lexemes l.words

abbrev pub decreases-loop-first : goal.decreases-loop-first
decreases-loop-first l = length l.rest
