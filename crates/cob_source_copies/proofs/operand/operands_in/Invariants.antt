use Rattle.std.proofs.Common.{◌≡◌, ◌≤◌, map, length, None, option_map}
use Rattle.cob_source.specs.Tokens.{lexemes}
use Rattle.cob_source_copies.specs.Statements.{operands_before, operands_in, written_operand}
use Rattle.cob_source_copies.specs.Reading.{open_words}
use Rattle.cob_source_copies.proofs.operand.operands_in.Given as goal

abbrev pub invariant-loop-first : goal.invariant-loop-first
invariant-loop-first l = record {
  read : option_map (operands_before (map written_operand l.operands.items)) (operands_in (open_words l.begun) (lexemes l.rest)) ≡ operands_in None (lexemes l.words);
  shorter : length l.rest ≤ length l.words;
}

abbrev pub decreases-loop-first : goal.decreases-loop-first
decreases-loop-first l = length l.rest
