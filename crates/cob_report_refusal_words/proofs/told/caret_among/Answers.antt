use Rattle.cob_source.specs.Tokens.{lexemes}
use Rattle.cob_report_refusal_words.proofs.Under.{under_spot}
use Rattle.cob_report_refusal_words.proofs.told.caret_among.Goals as goal

pub returns-in-Some : goal.returns-in-Some
returns-in-Some c = under_spot c.in-Some.spot c.caret_at.result (lexemes c.args.words.now) c.caret_at.ensures.line c.caret_at.ensures.column (rw c.in-Some.is at c.spot_at.ensures)
