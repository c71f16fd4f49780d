use Rattle.std.proofs.Common.{length}
use Rattle.cob_source.specs.Tokens.{lexemes}
use Rattle.cob_report_refusals.specs.Refused.{AreToldOf}
use Rattle.cob_report_refusals.proofs.Walking.{StandsBefore, Walked}
use Rattle.cob_report_refusals.proofs.sentences.sentence_refusals.Given as goal

abbrev pub invariant-loop-sentence : goal.invariant-loop-sentence
invariant-loop-sentence l = Walked (lexemes l.words) (lexemes l.rest) × AreToldOf (lexemes l.words) l.out.items × StandsBefore l.from (lexemes l.words) (lexemes l.rest)

abbrev pub decreases-loop-sentence : goal.decreases-loop-sentence
decreases-loop-sentence l = length l.rest
