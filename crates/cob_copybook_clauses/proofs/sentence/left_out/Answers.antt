use Rattle.cob_source.specs.Tokens.{lexemes}
use Rattle.cob_copybook_clauses.proofs.SentenceLemmas.{none_left_out}
use Rattle.cob_copybook_clauses.proofs.sentence.left_out.Goals as goal

pub returns-in_err-word-clause-none : goal.returns-in_err-word-clause-none
returns-in_err-word-clause-none c = rw c.from_residual.ensures (λ w. none_left_out w (lexemes c.args.sentence.now) (lexemes c.looked_at.result.now) (c.in_default.ensures.none w) (c.in_default-left_out_constant.ensures.none w) (c.in_err-word.ensures.none w) c.looked_at.ensures)
