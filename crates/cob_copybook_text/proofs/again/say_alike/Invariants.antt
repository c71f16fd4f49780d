use Rattle.std.proofs.Common.{◌≡◌, length}
use Rattle.cob_source.specs.Tokens.{lexemes}
use Rattle.cob_copybook_text.specs.Written.{say_alike}
use Rattle.cob_copybook_text.proofs.again.say_alike.Given as goal

abbrev pub invariant-loop-word : goal.invariant-loop-word
invariant-loop-word l = say_alike l.lines (lexemes l.left) (lexemes l.rest) ≡ say_alike l.lines (lexemes l.words) (lexemes l.own)

abbrev pub decreases-loop-word : goal.decreases-loop-word
decreases-loop-word l = length l.left
