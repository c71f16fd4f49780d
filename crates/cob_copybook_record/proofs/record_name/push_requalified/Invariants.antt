use Rattle.std.proofs.Common.{◌≡◌, ◌++◌, false, length}
use Rattle.cob_source.specs.Tokens.{lexemes}
use Rattle.cob_copybook_record.specs.RecordName.{requalified}
use Rattle.cob_copybook_record.proofs.record_name.push_requalified.Given as goal

abbrev pub invariant-loop-first : goal.invariant-loop-first
invariant-loop-first l = lexemes l.out.items ++ requalified l.old l.new l.qualifies (lexemes l.rest)
    ≡ lexemes l.initial.out.items ++ requalified l.old l.new false (lexemes l.words)

abbrev pub decreases-loop-first : goal.decreases-loop-first
decreases-loop-first l = length l.rest
