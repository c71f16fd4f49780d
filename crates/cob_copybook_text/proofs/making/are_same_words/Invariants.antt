use Rattle.std.proofs.Common.{◌≡◌, length}
use Rattle.cob_source.specs.Tokens.{lexemes}
use Rattle.cob_copybook_text.proofs.making.are_same_words.Given as goal

abbrev pub invariant-loop-word : goal.invariant-loop-word
invariant-loop-word l = lexemes l.left ≡ lexemes l.rest → lexemes l.words ≡ lexemes l.others

abbrev pub decreases-loop-word : goal.decreases-loop-word
decreases-loop-word l = length l.left
