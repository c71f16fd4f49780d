use Rattle.std.proofs.Common.{drop, List, ℕ}
use Rattle.cob_source.specs.Tokens.{lexemes}
use Rattle.cob_copybook_clauses.specs.Entries.{IsLeftOutWord}
use Rattle.cob_copybook_clauses.proofs.sentence.left_out_word.Given as goal

abbrev pub invariant-loop-token : goal.invariant-loop-token
invariant-loop-token l = record {
  left : (w : List ℕ) → IsLeftOutWord w (lexemes (drop l.token-index l.words)) → IsLeftOutWord w (lexemes l.words);
  whole : (w : List ℕ) → IsLeftOutWord w (lexemes l.words) → IsLeftOutWord w (lexemes (drop l.token-index l.words));
}
