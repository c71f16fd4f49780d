use Rattle.std.proofs.Common.{◌≡◌, ◌⊎◌, length}
use Rattle.cob_source.specs.Tokens.{lexemes}
use Rattle.cob_report_refusal_words.specs.Pointing.{IsUnderLater}
use Rattle.cob_report_refusal_words.proofs.Under.{Reaches}
use Rattle.cob_report_refusal_words.proofs.pointing.under_later.Given as goal

abbrev pub invariant-loop-word : goal.invariant-loop-word
invariant-loop-word l = (l.last ≡ l.initial.last ⊎ IsUnderLater l.last (lexemes l.words)) × Reaches (lexemes l.rest) (lexemes l.words)

abbrev pub decreases-loop-word : goal.decreases-loop-word
decreases-loop-word l = length l.rest
