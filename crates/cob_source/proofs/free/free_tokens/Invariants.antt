use Rattle.std.proofs.Common.{◌≡◌, ℕ, ◌+◌, ◌≤◌, List, ◌++◌, length}
use Rattle.cob_source.specs.Tokens.{Lexeme, lexemes}
use Rattle.cob_source.specs.Lines.{lines}
use Rattle.cob_source.specs.Free.{AreFreeFrom}
use Rattle.cob_source.proofs.free.free_tokens.Given as goal

abbrev pub invariant-loop-rest : goal.invariant-loop-rest
invariant-loop-rest l = record {
  few : l.number + length l.rest ≤ 1000001;
  at : (before : List (List ℕ)) × (lines l.text ≡ before ++ lines l.rest) × (l.number ≡ length before + 1);
  read : (behind : List Lexeme) → AreFreeFrom l.number (lines l.rest) behind → AreFreeFrom 1 (lines l.text) (lexemes l.out.items ++ behind);
}

abbrev pub decreases-loop-rest : goal.decreases-loop-rest
decreases-loop-rest l = length l.rest
