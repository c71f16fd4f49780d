use Rattle.std.proofs.Common.{◌≡◌, ◌≤◌, length}
use Rattle.cob_source.specs.Tokens.{lexemes}
use Rattle.cob_copybook_record.specs.OneRecord.{words_behind_part}
use Rattle.cob_copybook_record.proofs.stretch.behind_part.Given as goal

abbrev pub invariant-loop-first : goal.invariant-loop-first
invariant-loop-first l = record {
  behind : words_behind_part l.part l.begins (lexemes l.rest) ≡ words_behind_part l.part l.starts (lexemes l.words);
  shorter : length l.rest ≤ length l.words;
}

abbrev pub decreases-loop-first : goal.decreases-loop-first
decreases-loop-first l = length l.rest
